use Rattle.std.proofs.Common.{◌≡◌, ◌∙◌, [], ◌∷◌, map, string_bytes, IfSome, ap, sym, subst}
use Rattle.top_words.specs.Meant.{meant}
use Rattle.top_words.specs.Words.{IsSpelled}
use Rattle.top_words.proofs.Items.{list_of_10}
use Rattle.top_words.proofs.Surfaces.{sight_all, sight_right}
use Rattle.top_words.proofs.read.sight_command.Goals as goal

pub returns-in-len10-clause-right : goal.returns-in-len10-clause-right
returns-in-len10-clause-right c =
    let same = ap (map string_bytes) (list_of_10 c.args.words.now c.word-item.result c.z-item.result c.x-item.result c.y-item.result c.u-item.result c.v-item.result c.metres-item.result c.to_u-item.result c.to_v-item.result c.to_metres-item.result c.word-item.is c.z-item.is c.x-item.is c.y-item.is c.u-item.is c.v-item.is c.metres-item.is c.to_u-item.is c.to_v-item.is c.to_metres-item.is c.in-len10.len_at_least c.in-len10.len_below)
    ∙ (λ i. sym c.deref-in-len10-3.ensures i ∷ sym c.deref-in-len10-7.ensures i ∷ sym c.deref-in-len10-8.ensures i ∷ sym c.deref-in-len10-9.ensures i ∷ sym c.deref.ensures i ∷ sym c.deref-in-len10.ensures i ∷ sym c.deref-in-len10-2.ensures i ∷ sym c.deref-in-len10-4.ensures i ∷ sym c.deref-in-len10-5.ensures i ∷ sym c.deref-in-len10-6.ensures i ∷ []) in
    subst (λ words. IfSome c.of_surface.result (λ command. IsSpelled words (meant command))) (sym same)
    (sight_right c.deref-in-len10-3.result.now c.deref-in-len10-7.result.now c.deref-in-len10-8.result.now c.deref-in-len10-9.result.now c.deref.result.now c.deref-in-len10.result.now c.deref-in-len10-2.result.now c.deref-in-len10-4.result.now c.deref-in-len10-5.result.now c.deref-in-len10-6.result.now c.read_tile.result c.read_eye-from.result c.read_eye.result c.with_eyes-question.result c.of_surface.result
    c.read_tile.ensures.right c.read_eye-from.ensures.right c.read_eye.ensures.right c.with_eyes-question.ensures.right c.of_surface.ensures.right)

pub returns-in-len10-clause-all : goal.returns-in-len10-clause-all
returns-in-len10-clause-all c = λ count command is.
    let same = ap (map string_bytes) (list_of_10 c.args.words.now c.word-item.result c.z-item.result c.x-item.result c.y-item.result c.u-item.result c.v-item.result c.metres-item.result c.to_u-item.result c.to_v-item.result c.to_metres-item.result c.word-item.is c.z-item.is c.x-item.is c.y-item.is c.u-item.is c.v-item.is c.metres-item.is c.to_u-item.is c.to_v-item.is c.to_metres-item.is c.in-len10.len_at_least c.in-len10.len_below)
    ∙ (λ i. sym c.deref-in-len10-3.ensures i ∷ sym c.deref-in-len10-7.ensures i ∷ sym c.deref-in-len10-8.ensures i ∷ sym c.deref-in-len10-9.ensures i ∷ sym c.deref.ensures i ∷ sym c.deref-in-len10.ensures i ∷ sym c.deref-in-len10-2.ensures i ∷ sym c.deref-in-len10-4.ensures i ∷ sym c.deref-in-len10-5.ensures i ∷ sym c.deref-in-len10-6.ensures i ∷ []) in
    sight_all c.deref-in-len10-3.result.now c.deref-in-len10-7.result.now c.deref-in-len10-8.result.now c.deref-in-len10-9.result.now c.deref.result.now c.deref-in-len10.result.now c.deref-in-len10-2.result.now c.deref-in-len10-4.result.now c.deref-in-len10-5.result.now c.deref-in-len10-6.result.now c.read_tile.result c.read_eye-from.result c.read_eye.result c.with_eyes-question.result c.of_surface.result
    c.read_tile.ensures.all c.read_eye-from.ensures.all c.read_eye.ensures.all c.with_eyes-question.ensures.all c.of_surface.ensures.all command
    (subst (λ words. IsSpelled words command) same is)
