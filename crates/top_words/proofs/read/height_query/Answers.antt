use Rattle.std.proofs.Common.{◌≡◌, ◌∙◌, Some, ap}
use Rattle.top_words.specs.declared.question.LevelPlace.{LevelPlace}
use Rattle.top_words.proofs.Surfaces.{height_asked, height_found, height_text}
use Rattle.top_words.proofs.read.height_query.Goals as goal

pub returns-in_err-place-clause-all : goal.returns-in_err-place-clause-all
returns-in_err-place-clause-all c = λ query is.
    let parts = height_asked c.args.level.now c.args.east.now c.args.north.now query is in
    let none = c.in_err-place.ensures.all (record { level = parts.tile.z; east = parts.east; north = parts.north }) (height_text parts) in
    absurd (cc none)

pub returns-clause-all : goal.returns-clause-all
returns-clause-all c = λ query is.
    let parts = height_asked c.args.level.now c.args.east.now c.args.north.now query is in
    let wanted : LevelPlace = record { level = parts.tile.z; east = parts.east; north = parts.north } in
    let found = c.in_ok-place.ensures.all wanted (height_text parts) in
    let same : c.in_ok-place.place ≡ wanted = cc in
    height_found c.tile_at-tile.result c.in_ok-place.place.east c.in_ok-place.place.north parts (c.tile_at-tile.ensures.level ∙ ap (λ p. p.level) same) (ap (λ p. p.east) same) (ap (λ p. p.north) same) c.tile_at-tile.ensures.tile
