-- A question has one answer over bytes, and one that tells where they have a mesh in metres.
use Rattle.std.proofs.Common.{◌≡◌, ◌∙◌, sym, subst, ap, arith, ⊎_elim, ℕ, List, Option, Some, None}
use Rattle.std.specs.Prelude.{◌≢◌, ◌⊎◌, pos}
use Rattle.std.proofs.lemmas.Int.{ints}
use Rattle.terrain_base.specs.declared.tile.TileId.{TileId}
use Rattle.mesh_codec.specs.declared.refusal.TileRefusal.{TileRefusal}
use Rattle.mesh_codec.specs.Refusal.{tile_refusal_of}
use Rattle.mesh_plane.specs.Cover.{Covers}
use Rattle.mesh_plane.proofs.Surfaces.{surface_one}
use Rattle.mesh_query.specs.declared.refusal.QueryRefusal.{QueryRefusal}
use Rattle.mesh_query.specs.declared.refusal.QueryRefusal.TheVariants.{NoMemory}
use Rattle.mesh_query.specs.Answer.{IsFieldOf}
use Rattle.mesh_query.specs.Field.{MetreMesh, triangles_of}
use Rattle.mesh_query.specs.Way.{place}
use Rattle.mesh_query.proofs.Answers.{one_answer_law}
use Rattle.tile_query.specs.declared.question.Question.{Question}
use Rattle.tile_query.specs.declared.question.Question.TheVariants.{Height, Profile, Sight, View}
use Rattle.tile_query.specs.Answer.{AnswerText, Told, Refused, IsTold, IsToldOf, IsRefusedFor, IsReadAnswer, IsAnswerBy, IsHeightTold}
use Rattle.tile_query.specs.Laws.{OneAnswerLaw, ToldLaw, IsTelling}
use Rattle.tile_query.specs.Question.{point_in}
use Rattle.tile_query.specs.Text.{height_text_of, profile_text_of, sight_text_of, view_text_of, cause_text_of}
use Rattle.tile_query.proofs.OneField.{one_field}
use Rattle.tile_query.proofs.OneProfile.{one_profile}
use Rattle.tile_query.proofs.OneRatio.{one_ratio}
use Rattle.tile_query.proofs.OneSight.{one_sight, one_view}

-- ---- over a mesh in metres
one_height_told : (tile : TileId) (field : MetreMesh) (east north : ℕ) (text other : List ℕ) → Covers (triangles_of field)
    → IsHeightTold tile field east north text → IsHeightTold tile field east north other → text ≡ other
one_height_told tile field east north text other covers h i =
    let place = point_in tile east north in
    let same : h.height ≡ i.height = one_ratio h.height i.height h.lowest i.lowest
    (surface_one (pos 648000) place.u place.v h.height.over h.height.under i.height.over i.height.under
    (omega (arith, ints)) (triangles_of field) covers h.surface i.surface) in
    h.text_is ∙ ap (λ r. height_text_of tile r) same ∙ sym i.text_is

one_told : (tile : TileId) (field : MetreMesh) (question : Question) (text other : List ℕ) → Covers (triangles_of field)
    → IsTold tile field question text → IsTold tile field question other → text ≡ other
one_told tile field (Height east north) text other covers h i = one_height_told tile field east north text other covers h i
one_told tile field (Profile from to) text other covers h i =
    h.text_is
    ∙ ap (λ list. profile_text_of tile list)
    (one_profile (triangles_of field) (place from) (place to) covers h.breaks i.breaks h.are i.are)
    ∙ sym i.text_is
one_told tile field (Sight from to) text other covers h i =
    h.text_is
    ∙ ap sight_text_of
    (one_sight (triangles_of field) (place from.spot) from.metres (place to.spot) to.metres covers h.answer i.answer h.is i.is)
    ∙ sym i.text_is
one_told tile field (View eye) text other covers h i =
    h.text_is
    ∙ ap (λ seen. view_text_of tile _ seen) (one_view field (place eye.spot) eye.metres _ h.seen i.seen h.are i.are)
    ∙ sym i.text_is

-- ---- over the bytes of a tile
one_told_of : (tile : TileId) (bytes : List ℕ) (question : Question) (text other : List ℕ)
    → IsToldOf tile bytes question text → IsToldOf tile bytes question other → text ≡ other
one_told_of tile bytes question text other h i =
    let same : i.field ≡ h.field = one_field bytes i.field h.field i.field_is h.field_is in
    one_told tile h.field question text other h.field_is.covers h.told
    (subst (λ (f : MetreMesh). IsTold tile f question other) same i.told)

same_cause : (r s : QueryRefusal) → r ≢ NoMemory → s ≢ NoMemory → (r ≡ NoMemory) ⊎ ((s ≡ NoMemory) ⊎ (r ≡ s)) → r ≡ s
same_cause r s h i cases =
    ⊎_elim (λ e. absurd (h e)) (λ rest. ⊎_elim (λ e. absurd (i e)) (λ e. e) rest) cases

one_refused : (bytes text other : List ℕ) → IsRefusedFor bytes text → IsRefusedFor bytes other → text ≡ other
one_refused bytes text other h i =
    h.text_is
    ∙ ap cause_text_of (same_cause h.refusal i.refusal h.no_want i.no_want
    (one_answer_law.one bytes h.refusal i.refusal h.cause i.cause))
    ∙ sym i.text_is

not_both : (bytes text : List ℕ) (field : MetreMesh) → IsFieldOf bytes field → IsRefusedFor bytes text → ⊥
not_both bytes text field h i = i.no_want (one_answer_law.none bytes field i.refusal h i.cause)

one_read : (tile : TileId) (bytes : List ℕ) (question : Question) (answer other : AnswerText)
    → IsReadAnswer tile bytes question answer → IsReadAnswer tile bytes question other → answer ≡ other
one_read tile bytes question (Told text) (Told other) h i = ap Told (one_told_of tile bytes question text other h i)
one_read tile bytes question (Told text) (Refused cause) h i = absurd (not_both bytes cause h.field h.field_is i)
one_read tile bytes question (Refused cause) (Told text) h i = absurd (not_both bytes cause i.field i.field_is h)
one_read tile bytes question (Refused cause) (Refused other) h i = ap Refused (one_refused bytes cause other h i)

-- ---- over any bytes
one_by : (refused : Option TileRefusal) (tile : TileId) (bytes : List ℕ) (question : Question) (answer other : AnswerText)
    → IsAnswerBy refused tile bytes question answer → IsAnswerBy refused tile bytes question other → answer ≡ other
one_by None tile bytes question answer other h i = one_read tile bytes question answer other h i
one_by (Some refusal) tile bytes question answer other h i = h ∙ sym i

pub one_answer : OneAnswerLaw
one_answer tile bytes question answer other h i = one_by (tile_refusal_of bytes) tile bytes question answer other h i

telling : (tile : TileId) (bytes : List ℕ) (question : Question) (answer : AnswerText) (field : MetreMesh)
    → IsFieldOf bytes field → IsReadAnswer tile bytes question answer → IsTelling answer
telling tile bytes question (Told text) field f h = tt
telling tile bytes question (Refused cause) field f h = not_both bytes cause field f h

pub told_where_read : ToldLaw
told_where_read tile bytes question answer field read f h =
    telling tile bytes question answer field f
    (subst (λ (refused : Option TileRefusal). IsAnswerBy refused tile bytes question answer) read h)
