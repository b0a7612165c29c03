use Rattle.std.proofs.Common.{◌≡◌, ◌∙◌, [], ◌∷◌, map, string_bytes, IfSome, ap, sym, subst}
use Rattle.top_words.specs.Meant.{meant}
use Rattle.top_words.specs.Words.{IsSpelled}
use Rattle.top_words.proofs.Items.{list_of_8}
use Rattle.top_words.proofs.Surfaces.{profile_all, profile_right}
use Rattle.top_words.proofs.read.profile_command.Goals as goal

pub returns-in-len8-clause-right : goal.returns-in-len8-clause-right
returns-in-len8-clause-right c =
    let same = ap (map string_bytes) (list_of_8 c.args.words.now c.word-item.result c.z-item.result c.x-item.result c.y-item.result c.u-item.result c.v-item.result c.to_u-item.result c.to_v-item.result c.word-item.is c.z-item.is c.x-item.is c.y-item.is c.u-item.is c.v-item.is c.to_u-item.is c.to_v-item.is c.in-len8.len_at_least c.in-len8.len_below)
    ∙ (λ i. sym c.deref.ensures i ∷ sym c.deref-in-len8-5.ensures i ∷ sym c.deref-in-len8-6.ensures i ∷ sym c.deref-in-len8-7.ensures i ∷ sym c.deref-in-len8.ensures i ∷ sym c.deref-in-len8-2.ensures i ∷ sym c.deref-in-len8-3.ensures i ∷ sym c.deref-in-len8-4.ensures i ∷ []) in
    subst (λ words. IfSome c.of_surface.result (λ command. IsSpelled words (meant command))) (sym same)
    (profile_right c.deref.result.now c.deref-in-len8-5.result.now c.deref-in-len8-6.result.now c.deref-in-len8-7.result.now c.deref-in-len8.result.now c.deref-in-len8-2.result.now c.deref-in-len8-3.result.now c.deref-in-len8-4.result.now c.read_tile.result c.read_spot.result c.read_spot-in-len8.result c.with_spots-question.result c.of_surface.result
    c.read_tile.ensures.right c.read_spot.ensures.right c.read_spot-in-len8.ensures.right c.with_spots-question.ensures.right c.of_surface.ensures.right)

pub returns-in-len8-clause-all : goal.returns-in-len8-clause-all
returns-in-len8-clause-all c = λ count command is.
    let same = ap (map string_bytes) (list_of_8 c.args.words.now c.word-item.result c.z-item.result c.x-item.result c.y-item.result c.u-item.result c.v-item.result c.to_u-item.result c.to_v-item.result c.word-item.is c.z-item.is c.x-item.is c.y-item.is c.u-item.is c.v-item.is c.to_u-item.is c.to_v-item.is c.in-len8.len_at_least c.in-len8.len_below)
    ∙ (λ i. sym c.deref.ensures i ∷ sym c.deref-in-len8-5.ensures i ∷ sym c.deref-in-len8-6.ensures i ∷ sym c.deref-in-len8-7.ensures i ∷ sym c.deref-in-len8.ensures i ∷ sym c.deref-in-len8-2.ensures i ∷ sym c.deref-in-len8-3.ensures i ∷ sym c.deref-in-len8-4.ensures i ∷ []) in
    profile_all c.deref.result.now c.deref-in-len8-5.result.now c.deref-in-len8-6.result.now c.deref-in-len8-7.result.now c.deref-in-len8.result.now c.deref-in-len8-2.result.now c.deref-in-len8-3.result.now c.deref-in-len8-4.result.now c.read_tile.result c.read_spot.result c.read_spot-in-len8.result c.with_spots-question.result c.of_surface.result
    c.read_tile.ensures.all c.read_spot.ensures.all c.read_spot-in-len8.ensures.all c.with_spots-question.ensures.all c.of_surface.ensures.all command
    (subst (λ words. IsSpelled words command) same is)
