use Rattle.std.proofs.Common.{◌≡◌, ◌∙◌, [], ◌∷◌, map, string_bytes, IfSome, ap, sym, subst}
use Rattle.top_words.specs.Meant.{meant}
use Rattle.top_words.specs.Words.{IsSpelled}
use Rattle.top_words.proofs.Items.{list_of_7}
use Rattle.top_words.proofs.Surfaces.{view_all, view_right}
use Rattle.top_words.proofs.read.view_command.Goals as goal

pub returns-in-len7-clause-right : goal.returns-in-len7-clause-right
returns-in-len7-clause-right c =
    let same = ap (map string_bytes) (list_of_7 c.args.words.now c.word-item.result c.z-item.result c.x-item.result c.y-item.result c.u-item.result c.v-item.result c.metres-item.result c.word-item.is c.z-item.is c.x-item.is c.y-item.is c.u-item.is c.v-item.is c.metres-item.is c.in-len7.len_at_least c.in-len7.len_below)
    ∙ (λ i. sym c.deref.ensures i ∷ sym c.deref-in-len7-4.ensures i ∷ sym c.deref-in-len7-5.ensures i ∷ sym c.deref-in-len7-6.ensures i ∷ sym c.deref-in-len7.ensures i ∷ sym c.deref-in-len7-2.ensures i ∷ sym c.deref-in-len7-3.ensures i ∷ []) in
    subst (λ words. IfSome c.of_surface.result (λ command. IsSpelled words (meant command))) (sym same)
    (view_right c.deref.result.now c.deref-in-len7-4.result.now c.deref-in-len7-5.result.now c.deref-in-len7-6.result.now c.deref-in-len7.result.now c.deref-in-len7-2.result.now c.deref-in-len7-3.result.now c.read_tile.result c.read_eye.result c.with_eye-question.result c.of_surface.result
    c.read_tile.ensures.right c.read_eye.ensures.right c.with_eye-question.ensures.right c.of_surface.ensures.right)

pub returns-in-len7-clause-all : goal.returns-in-len7-clause-all
returns-in-len7-clause-all c = λ count command is.
    let same = ap (map string_bytes) (list_of_7 c.args.words.now c.word-item.result c.z-item.result c.x-item.result c.y-item.result c.u-item.result c.v-item.result c.metres-item.result c.word-item.is c.z-item.is c.x-item.is c.y-item.is c.u-item.is c.v-item.is c.metres-item.is c.in-len7.len_at_least c.in-len7.len_below)
    ∙ (λ i. sym c.deref.ensures i ∷ sym c.deref-in-len7-4.ensures i ∷ sym c.deref-in-len7-5.ensures i ∷ sym c.deref-in-len7-6.ensures i ∷ sym c.deref-in-len7.ensures i ∷ sym c.deref-in-len7-2.ensures i ∷ sym c.deref-in-len7-3.ensures i ∷ []) in
    view_all c.deref.result.now c.deref-in-len7-4.result.now c.deref-in-len7-5.result.now c.deref-in-len7-6.result.now c.deref-in-len7.result.now c.deref-in-len7-2.result.now c.deref-in-len7-3.result.now c.read_tile.result c.read_eye.result c.with_eye-question.result c.of_surface.result
    c.read_tile.ensures.all c.read_eye.ensures.all c.with_eye-question.ensures.all c.of_surface.ensures.all command
    (subst (λ words. IsSpelled words command) same is)
