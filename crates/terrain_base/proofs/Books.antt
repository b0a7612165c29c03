-- A look-up among books, from the front.
use Rattle.std.proofs.Common.{◌≡◌, ℕ, Bool, List, [], ◌∷◌, length, cond, Option, Some, None, sym, ap, ◌∙◌, arith}
use Rattle.std.specs.Ordering.{nat_cmp, is_eq}
use Rattle.std.specs.Cmp.Lexicographic.{slice_cmp}
use Rattle.std.proofs.lemmas.Cmp.{nat_list_cmp_total}
use Rattle.std.specs.FinMap.{get, get-empty, get-insert}
use Rattle.terrain_base.specs.declared.sure_library.Book.{Book}
use Rattle.terrain_base.specs.Book.{files_of}

-- one book on, by what the comparison answered
pub one_on : (before after : List Book) (book : Book) (name key held : List ℕ) (answer : Bool) (found : Option (List ℕ)) → found ≡ get (files_of before) name → before ≡ book ∷ after
    → key ≡ name → held ≡ book.name.items → answer ≡ is_eq (slice_cmp nat_cmp key held) → found ≡ cond answer (Some book.bytes.items) (get (files_of after) name)
one_on before after book name key held answer found so_far is k h test =
    so_far ∙ ap (λ books. get (files_of books) name) is ∙ get-insert nat_list_cmp_total (files_of after) book.name.items book.bytes.items name
    ∙ ap (λ b. cond b (Some book.bytes.items) (get (files_of after) name)) (sym (test ∙ ap (λ x. is_eq (slice_cmp nat_cmp x held)) k ∙ ap (λ x. is_eq (slice_cmp nat_cmp name x)) h))

-- no book is left
pub at_end : (books : List Book) (name : List ℕ) → length books ≡ 0 → get (files_of books) name ≡ None
at_end [] name e = get-empty (slice_cmp nat_cmp) name
at_end (book ∷ books) name e = absurd (omega arith)
