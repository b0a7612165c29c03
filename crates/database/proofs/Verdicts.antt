-- The least difference, name by name, is the verdict.
use Rattle.std.proofs.lemmas.List.{take_more}
use Rattle.std.proofs.Common.{arith, zero, suc, ◌≡◌, ℕ, ◌+◌, ◌<◌, ◌==◌, Bool, true, false, ◌||◌, ◌&&◌, not, is_some, cond, List, [], ◌∷◌, ◌++◌, map, length, get_or, take, Option, Some, None, refl, sym, ap, subst, ◌∙◌, ◌⊎◌, inl, inr, ⊎_elim, if◌then◌else◌}
use Rattle.std.specs.Ordering.{eq_by_cmp, is_lt}
use Rattle.std.specs.Cmp.Lexicographic.{pointwise}
use Rattle.std.specs.List.{list_any, filter}
use Rattle.std.specs.declared.cmp.Ordering.{Ordering}
use Rattle.std.specs.declared.cmp.Ordering.TheVariants.{Less, Equal, Greater}
use Rattle.std.specs.FinMap.{get, keys, contains_key-keys}
use Rattle.std.proofs.lemmas.List.Folds.{list_any-append}
use Rattle.std.proofs.lemmas.Bool.{or_right, or_left, or_parts, both_ways}
use Rattle.common_laws.proofs.Orders.{less_from_test}
use Rattle.terrain_base.specs.declared.name.Key.{Key}
use Rattle.terrain_base.specs.declared.name.Key.TheVariants.{Manifest, Layer, Stage, Cell, OldCell, Terrain, Note}
use Rattle.terrain_base.specs.declared.cell_key.CellKey.{CellKey}
use Rattle.database.specs.declared.verdict.Difference.{Difference}
use Rattle.database.specs.declared.verdict.Difference.TheVariants.{Differs, Extra}
use Rattle.database.specs.declared.verdict.Finding.{Finding}
use Rattle.terrain_base.specs.CellKey.{key_cmp}
use Rattle.terrain_base.specs.Name.{by_text}
use Rattle.terrain_base.specs.Step.{Files}
use Rattle.terrain_base.specs.Overwrite.{is_among}
use Rattle.database.specs.Commands.{tile_names, existing}
use Rattle.database.specs.State.{State, file_of, where_it_is, tile_exists}
use Rattle.tile_rule.specs.Tile.{terrain_of, note_of}
use Rattle.database.specs.Verdict.{difference_of, difference_at, IsVerdict, IsLeast, wanted_names, unwanted_names, lesser}
use Rattle.database.proofs.Given.{by_text_total, existing_all}
use Rattle.database.proofs.Tests.{is_name, name_self, name_same}
use Rattle.database.proofs.Among.{terrain_among, note_among, cell_test}
use Rattle.database.proofs.Standing.{by_test}

-- ---- one name more

either : (a b : Bool) (other name : Key) → (b ≡ true → other ≡ name) → (a || (b || false)) ≡ true → (a ≡ true) ⊎ (other ≡ name)
either true b other name same e = inl refl
either false true other name same e = inr (same refl)
either false false other name same e = absurd (cc)

among_last : (other name : Key) (names : List Key) → is_among other (names ++ name ∷ []) ≡ true → (is_among other names ≡ true) ⊎ (other ≡ name)
among_last other name names e = either (is_among other names) (is_name other name) other name (name_same other name) (sym (list_any-append (is_name other) names (name ∷ [])) ∙ e)

not_less : (o : Ordering) → is_lt o ≡ false → o ≡ Less → ⊥
not_less Less e is = absurd (cc)
not_less Equal e is = absurd (cc)
not_less Greater e is = absurd (cc)

at_name : (at : Key → Option Difference) (other name : Key) (d : Option Difference) → at name ≡ d → other ≡ name → at other ≡ d
at_name at other name d e same = ap at same ∙ e

by_self : (o : Ordering) → o ≡ Less → Rattle.std.specs.Ordering.is_eq o ≡ true → ⊥
by_self Less e same = absurd (cc)
by_self Equal e same = absurd (cc)
by_self Greater e same = absurd (cc)

-- nothing is less than itself
not_self : (name : Key) → by_text name name ≡ Less → ⊥
not_self name e = let same : is_name name name ≡ true = name_self name in absurd (by_self (by_text name name) e same)

pub least_more : (at : Key → Option Difference) (names : List Key) (best : Option Finding) (name : Key) (d : Option Difference) (before : Bool) → IsLeast at names best → at name ≡ d
    → ((found : Finding) → best ≡ Some found → before ≡ is_lt (by_text name found.name)) → IsLeast at (names ++ name ∷ []) (lesser best name d before)
least_more at names None name None before least e test = λ other among. ⊎_elim (λ old. least other old) (λ same. at_name at other name None e same) (among_last other name names among)
least_more at names (Some found) name None before least e test =
    (least.0, λ other among less. ⊎_elim (λ old. least.1 other old less) (λ same. at_name at other name None e same) (among_last other name names among))
least_more at names None name (Some kind) before least e test =
    (e, λ other among less. ⊎_elim (λ old. least other old) (λ same. absurd (not_self name (subst (λ o. by_text o name ≡ Less) same less))) (among_last other name names among))
least_more at names (Some found) name (Some kind) true least e test =
    let under = less_from_test (by_text name found.name) (sym (test found refl)) in
    (e, λ other among less. ⊎_elim (λ old. least.1 other old (by_text_total.trans other name found.name less under)) (λ same. absurd (not_self name (subst (λ o. by_text o name ≡ Less) same less))) (among_last other name names among))
least_more at names (Some found) name (Some kind) false least e test =
    (least.0, λ other among less. ⊎_elim (λ old. least.1 other old less) (λ same. absurd (not_less (by_text name found.name) (sym (test found refl)) (subst (λ o. by_text o found.name ≡ Less) same less))) (among_last other name names among))

-- ---- all names

same_head : (a b : Bool) (x y : ℕ) (xs ys : List ℕ) → (a ≡ true → x ≡ y) → (b ≡ true → xs ≡ ys) → (a && b) ≡ true → x ∷ xs ≡ y ∷ ys
same_head true true x y xs ys p q e = λ i. p refl i ∷ q refl i
same_head true false x y xs ys p q e = absurd (cc)
same_head false b x y xs ys p q e = absurd (cc)

-- what two texts that do not differ are
same_bytes : (xs ys : List ℕ) → pointwise ◌==◌ xs ys ≡ true → xs ≡ ys
same_bytes [] [] e = refl
same_bytes [] (y ∷ ys) e = absurd (cc)
same_bytes (x ∷ xs) [] e = absurd (cc)
same_bytes (x ∷ xs) (y ∷ ys) e = same_head (x == y) (pointwise ◌==◌ xs ys) x y xs ys (λ h. Rattle.std.proofs.lemmas.Bool.eqb-true x y h) (same_bytes xs ys) e

none_differs : (b : Bool) → (if b then None else Some Differs) ≡ None → b ≡ true
none_differs true e = refl
none_differs false e = absurd (cc)

pub same_of : (held wanted : Option (List ℕ)) → difference_of held wanted ≡ None → held ≡ wanted
same_of None None e = refl
same_of None (Some wanted) e = absurd (cc)
same_of (Some held) None e = absurd (cc)
same_of (Some held) (Some wanted) e = ap Some (same_bytes held wanted (none_differs _ e))

-- each name that is held or wanted is among these
pub record AllNames (s : State) (files : Files) (names : List Key) : Type 0 where
  pub rest : (name : Key) → is_among name names ≡ false → difference_at s files name ≡ None

pub verdict_of : (s : State) (files : Files) (names : List Key) (best : Option Finding) → AllNames s files names → IsLeast (difference_at s files) names best → IsVerdict s files best
verdict_of s files names None all least = record { each = λ name. same_of (get files name) (file_of s name) (by_test (is_among name names) _ (λ e. least name e) (λ e. all.rest name e)) }
verdict_of s files names (Some found) all least = (least.0, λ other less. by_test (is_among other names) _ (λ e. least.1 other e less) (λ e. all.rest other e))

pub cell_among_map : (k : CellKey) (ks : List CellKey) → is_among (Cell k) (map Cell ks) ≡ list_any (eq_by_cmp key_cmp k) ks
cell_among_map k [] = refl
cell_among_map k (j ∷ ks) = rw (cell_test k j) (ap (λ b. eq_by_cmp key_cmp k j || b) (cell_among_map k ks))

neither : (held wanted : Option (List ℕ)) → (is_some wanted ≡ true → ⊥) → (is_some wanted ≡ false → is_some held ≡ true → ⊥) → difference_of held wanted ≡ None
neither None None w h = refl
neither None (Some b) w h = absurd (w refl)
neither (Some a) None w h = absurd (h refl refl)
neither (Some a) (Some b) w h = absurd (w refl)

kept_by : (s : State) (q x : Key) (xs : List Key) (b c : Bool) → is_name q x ≡ b → not (is_some (file_of s x)) ≡ c → not (is_some (file_of s q)) ≡ true → (b || list_any (is_name q) xs) ≡ true
    → (list_any (is_name q) xs ≡ true → list_any (is_name q) (filter (λ name. not (is_some (file_of s name))) xs) ≡ true)
    → list_any (is_name q) (cond c (x ∷ filter (λ name. not (is_some (file_of s name))) xs) (filter (λ name. not (is_some (file_of s name))) xs)) ≡ true
kept_by s q x xs true true e f pq at ih = rw e refl
kept_by s q x xs true false e f pq at ih = absurd (let same : not (is_some (file_of s q)) ≡ not (is_some (file_of s x)) = ap (λ n. not (is_some (file_of s n))) (name_same q x e) in cc)
kept_by s q x xs false true e f pq at ih = rw e (ih at)
kept_by s q x xs false false e f pq at ih = ih at

among_filter : (s : State) (q : Key) (xs : List Key) → not (is_some (file_of s q)) ≡ true → list_any (is_name q) xs ≡ true → list_any (is_name q) (filter (λ name. not (is_some (file_of s name))) xs) ≡ true
among_filter s q [] pq at = at
among_filter s q (x ∷ xs) pq at = kept_by s q x xs (is_name q x) (not (is_some (file_of s x))) refl refl pq at (among_filter s q xs pq)

there_some : (b : Bool) (text : List ℕ) → is_some (where_it_is b text) ≡ true → b ≡ true
there_some true text e = refl
there_some false text e = absurd (cc)

any_of : (names more : List Key) (q : Key) → is_among q more ≡ true → is_among q (names ++ more) ≡ true
any_of names more q e = list_any-append (is_name q) names more ∙ or_right (is_among q names) (is_among q more) e

-- what is wanted is in the list
wanted_among : (s : State) (q : Key) → is_some (file_of s q) ≡ true → is_among q (wanted_names s) ≡ true
wanted_among s Manifest e = refl
wanted_among s Layer e = refl
wanted_among s Stage e = absurd (cc)
wanted_among s (OldCell q) e = absurd (cc)
wanted_among s (Cell k) e =
    any_of (Manifest ∷ Layer ∷ []) (map Cell (keys s.cells) ++ tile_names (existing s)) (Cell k)
    (list_any-append (is_name (Cell k)) (map Cell (keys s.cells)) (tile_names (existing s)) ∙ or_left _ _ (cell_among_map k (keys s.cells) ∙ sym (contains_key-keys s.cells k) ∙ e))
wanted_among s (Terrain t) e =
    any_of (Manifest ∷ Layer ∷ []) (map Cell (keys s.cells) ++ tile_names (existing s)) (Terrain t)
    (any_of (map Cell (keys s.cells)) (tile_names (existing s)) (Terrain t) (terrain_among t (existing s) ∙ existing_all s t (there_some (tile_exists s t) (terrain_of s.params s.cells t) e)))
wanted_among s (Note t) e =
    any_of (Manifest ∷ Layer ∷ []) (map Cell (keys s.cells) ++ tile_names (existing s)) (Note t)
    (any_of (map Cell (keys s.cells)) (tile_names (existing s)) (Note t) (note_among t (existing s) ∙ existing_all s t (there_some (tile_exists s t) (note_of s.params s.cells t) e)))

-- the names that are held and not wanted, and those that are wanted, are all
pub all_names : (s : State) (files : Files) → AllNames s files (unwanted_names s files ++ wanted_names s)
all_names s files = record {
  rest = λ name out.
      let parts = or_parts _ _ (sym (list_any-append (is_name name) (unwanted_names s files) (wanted_names s)) ∙ out) in
      neither (get files name) (file_of s name)
      (λ wanted. let here = wanted_among s name wanted in absurd (both_ways _ parts.1 here))
      (λ unwanted held. let here = among_filter s name (keys files) (ap not unwanted) (sym (contains_key-keys files name) ∙ held) in absurd (both_ways _ parts.0 here));
}

extra_of : (held wanted : Option (List ℕ)) → is_some held ≡ true → is_some wanted ≡ false → difference_of held wanted ≡ Some Extra
extra_of None wanted h w = absurd (cc)
extra_of (Some a) None h w = refl
extra_of (Some a) (Some b) h w = absurd (cc)

-- a name that is held and not wanted is extra
pub extra_at : (s : State) (files : Files) (name : Key) → is_some (get files name) ≡ true → is_some (file_of s name) ≡ false → difference_at s files name ≡ Some Extra
extra_at s files name held wanted = extra_of (get files name) (file_of s name) held wanted

-- ---- the names that are held, one by one

filter_step : (p : Key → Bool) (x : Key) (xs ys : List Key) (b : Bool) → filter p (xs ++ ys) ≡ filter p xs ++ filter p ys
    → cond b (x ∷ filter p (xs ++ ys)) (filter p (xs ++ ys)) ≡ cond b (x ∷ filter p xs) (filter p xs) ++ filter p ys
filter_step p x xs ys true e = ap (λ zs. x ∷ zs) e
filter_step p x xs ys false e = e

filter_append : (p : Key → Bool) (xs ys : List Key) → filter p (xs ++ ys) ≡ filter p xs ++ filter p ys
filter_append p [] ys = refl
filter_append p (x ∷ xs) ys = filter_step p x xs ys (p x) (filter_append p xs ys)

append_none : (xs : List Key) → xs ++ [] ≡ xs
append_none [] = refl
append_none (x ∷ xs) = ap (λ ys. x ∷ ys) (append_none xs)

pub more_of : (p : Key → Bool) (names : List Key) (i : ℕ) (name : Key) → i < length names → name ≡ get_or names i name → filter p (take (i + 1) names) ≡ filter p (take i names) ++ filter p (name ∷ [])
more_of p names i name less is = ap (filter p) (take_more names i name less) ∙ filter_append p (take i names) (get_or names i name ∷ []) ∙ ap (λ n. filter p (take i names) ++ filter p (n ∷ [])) (sym is)

pub filter_more : (p : Key → Bool) (names : List Key) (i : ℕ) (name : Key) → i < length names → name ≡ get_or names i name → p name ≡ true → filter p (take (i + 1) names) ≡ filter p (take i names) ++ name ∷ []
filter_more p names i name less is e = more_of p names i name less is ∙ ap (λ b. filter p (take i names) ++ cond b (name ∷ []) []) e

pub filter_same : (p : Key → Bool) (names : List Key) (i : ℕ) (name : Key) → i < length names → name ≡ get_or names i name → p name ≡ false → filter p (take (i + 1) names) ≡ filter p (take i names)
filter_same p names i name less is e = more_of p names i name less is ∙ ap (λ b. filter p (take i names) ++ cond b (name ∷ []) []) e ∙ append_none (filter p (take i names))

in_list : (names : List Key) (i : ℕ) (name : Key) → i < length names → name ≡ get_or names i name → is_among name names ≡ true
in_list [] i name less is = absurd (omega arith)
in_list (x ∷ names) zero name less is = rw is (or_left _ _ (name_self x))
in_list (x ∷ names) (suc i) name less is = or_right _ _ (in_list names i name (omega arith) is)

-- a name of those that are held is held
pub is_held : (files : Files) (i : ℕ) (name : Key) → i < length (keys files) → name ≡ get_or (keys files) i name → is_some (get files name) ≡ true
is_held files i name less is = contains_key-keys files name ∙ in_list (keys files) i name less is

-- ---- as the code has it

still_least : (at : Key → Option Difference) (names : List Key) (found : Finding) (name : Key) → IsLeast at names (Some found) → at name ≡ None → IsLeast at (names ++ name ∷ []) (Some found)
still_least at names found name least e = (least.0, λ other among less. ⊎_elim (λ old. least.1 other old less) (λ same. at_name at other name None e same) (among_last other name names among))

pub least_none : (at : Key → Option Difference) (names : List Key) (best : Option Finding) (name : Key) (d : Option Difference) → d ≡ None → IsLeast at names best → at name ≡ d → IsLeast at (names ++ name ∷ []) best
least_none at names None name d none least e = least_more at names None name None false least (e ∙ none) (λ f is. absurd (cc))
least_none at names (Some found) name d none least e = still_least at names found name least (e ∙ none)

pub least_first : (at : Key → Option Difference) (names : List Key) (best : Option Finding) (name : Key) (d : Option Difference) (kind : Difference) → best ≡ None → d ≡ Some kind → IsLeast at names best → at name ≡ d → IsLeast at (names ++ name ∷ []) (Some (record { name = name; kind = kind }))
least_first at names best name d kind none some least e = least_more at names None name (Some kind) false (subst (λ b. IsLeast at names b) none least) (e ∙ some) (λ f is. absurd (cc))

one_found : (name : Key) (found f : Finding) (b : Bool) → b ≡ is_lt (by_text name found.name) → Some found ≡ Some f → b ≡ is_lt (by_text name f.name)
one_found name found f b test is = let same : found ≡ f = cc in test ∙ ap (λ x. is_lt (by_text name x.name)) same

pub least_then : (at : Key → Option Difference) (names : List Key) (best : Option Finding) (found : Finding) (name : Key) (d : Option Difference) (kind : Difference) → best ≡ Some found → d ≡ Some kind → is_lt (by_text name found.name) ≡ true → IsLeast at names best → at name ≡ d
    → IsLeast at (names ++ name ∷ []) (Some (record { name = name; kind = kind }))
least_then at names best found name d kind is some less least e = least_more at names (Some found) name (Some kind) true (subst (λ b. IsLeast at names b) is least) (e ∙ some) (λ f same. one_found name found f true (sym less) same)

pub least_else : (at : Key → Option Difference) (names : List Key) (best : Option Finding) (found : Finding) (name : Key) (d : Option Difference) (kind : Difference) → best ≡ Some found → d ≡ Some kind → is_lt (by_text name found.name) ≡ false → IsLeast at names best → at name ≡ d
    → IsLeast at (names ++ name ∷ []) (Some found)
least_else at names best found name d kind is some less least e = least_more at names (Some found) name (Some kind) false (subst (λ b. IsLeast at names b) is least) (e ∙ some) (λ f same. one_found name found f false (sym less) same)

pub keeps_one : (p : Key → Bool) (name : Key) → p name ≡ true → filter p (name ∷ []) ≡ name ∷ []
keeps_one p name e = ap (λ b. cond b (name ∷ []) []) e

pub keeps_none : (p : Key → Bool) (names : List Key) (name : Key) → p name ≡ false → names ++ filter p (name ∷ []) ≡ names
keeps_none p names name e = ap (λ b. names ++ cond b (name ∷ []) []) e ∙ append_none names

pub held_of : (files : Files) (names : List Key) (i : ℕ) (name : Key) → names ≡ keys files → i < length names → name ≡ get_or names i name → is_some (get files name) ≡ true
held_of files names i name same less is = contains_key-keys files name ∙ subst (λ ns. is_among name ns ≡ true) same (in_list names i name less is)
