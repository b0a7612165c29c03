-- What single changes, held names and stops come to.
use Rattle.std.specs.Prelude.{◌≡◌, ◌≢◌, ℕ, ◌≤◌, Bool, true, false, ◌&&◌, List, [], ◌∷◌, ◌++◌, Option, Some, None, IfSome, length, map, take, Contains, cond, refl}
use Rattle.std.proofs.Common.{T, sym, ap, ◌∙◌, subst, Less, Equal, Greater}
use Rattle.std.specs.declared.cmp.Ordering.{Ordering}
use Rattle.std.specs.Ordering.{eq_by_cmp, is_lt}
use Rattle.std.specs.Cmp.{eq_by_cmp_equiv}
use Rattle.std.specs.List.{AllByRecursion}
use Rattle.std.specs.List.Sorted.{IsStrictlySortedBy}
use Rattle.std.specs.FinMap.{get, get-insert, get-remove, entries, entries_sorted, same_map, remove, is_sorted}
use Rattle.std.specs.FinMap.Entries.{below_all}
use Rattle.std.proofs.lemmas.Map.Views.{tells_apart, list_any-from_Contains, Contains-from_any}
use Rattle.terrain_base.specs.declared.name.Key.{Key}
use Rattle.terrain_base.specs.Name.{by_text}
use Rattle.terrain_base.specs.Step.{change_of}
use Rattle.terrain_base.specs.Overwrite.{is_among}
use Rattle.terrain_base.specs.StoreLaws.{PutsOne, DeletesOne, AbsentStays, NamesAscend, Overwrites, StopsLeaveOthers, StopsLogAFront}
use Rattle.terrain_base.proofs.NameOrder.{by_text_total, by_text_exact}
use Rattle.terrain_base.proofs.Overwrites.{get-overwritten}
use Rattle.terrain_base.proofs.Stops.{outside_stays, log_of_told}

-- ---- whether names are the same

tied_itself : (name : Key) → eq_by_cmp by_text name name ≡ true
tied_itself name = (eq_by_cmp_equiv by_text_total).refl name

not_true : (b : Bool) → (b ≡ true → ⊥) → b ≡ false
not_true true never = absurd (never refl)
not_true false never = refl

apart : (a b : Key) → a ≢ b → eq_by_cmp by_text a b ≡ false
apart a b differ = not_true (eq_by_cmp by_text a b) (λ e. differ (tells_apart by_text_exact a b e))

among : (name : Key) (names : List Key) → Contains names name → is_among name names ≡ true
among name names there = list_any-from_Contains (eq_by_cmp_equiv by_text_total) name names there

not_among : (name : Key) (names : List Key) → ¬ (Contains names name) → is_among name names ≡ false
not_among name names out = not_true (is_among name names) (λ e. out (Contains-from_any (tells_apart by_text_exact) name names e))

-- ---- single changes

pub puts_one : PutsOne
puts_one files name bytes = (
  get-insert by_text_total files name bytes name ∙ ap (λ b. cond b (Some bytes) (get files name)) (tied_itself name),
  λ other differ. get-insert by_text_total files name bytes other ∙ ap (λ b. cond b (Some bytes) (get files other)) (apart other name differ),
)

pub deletes_one : DeletesOne
deletes_one files name = (
  get-remove by_text_total files name name ∙ ap (λ b. cond b None (get files name)) (tied_itself name),
  λ other differ. get-remove by_text_total files name other ∙ ap (λ b. cond b None (get files other)) (apart other name differ),
)

kept_none : (b : Bool) (held : Option (List ℕ)) → (b ≡ true → held ≡ None) → cond b None held ≡ held
kept_none true held none = sym (none refl)
kept_none false held none = refl

pub absent_stays : AbsentStays
absent_stays files name none = same_map by_text_total by_text_exact (remove files name) files (λ q.
    get-remove by_text_total files name q
    ∙ kept_none (eq_by_cmp by_text q name) (get files q) (λ e. ap (get files) (tells_apart by_text_exact q name e) ∙ none))

-- ---- held names

less : (o : Ordering) → T (is_lt o) → o ≡ Less
less Less t = refl
less Equal t = absurd t
less Greater t = absurd t

both : (a b : Bool) → T (a && b) → T a × T b
both true true t = (tt, tt)
both true false t = absurd t
both false b t = absurd t

below_keys : (name : Key) (es : List (Key × List ℕ)) → T (below_all by_text name es) → AllByRecursion
    (λ other. by_text name other ≡ Less) (map (λ e. e.0) es)
below_keys name [] t = tt
below_keys name (e ∷ es) t = let parts = both (is_lt (by_text name e.0)) (below_all by_text name es) t in (less (by_text name e.0) parts.0, below_keys name es parts.1)

sorted_keys : (es : List (Key × List ℕ)) → T (is_sorted by_text es) → IsStrictlySortedBy by_text
    (map (λ e. e.0) es)
unfolding IsStrictlySortedBy
sorted_keys [] t = tt
sorted_keys (e ∷ es) t = let parts = both (below_all by_text e.0 es) (is_sorted by_text es) t in (below_keys e.0 es parts.0, sorted_keys es parts.1)

pub names_ascend : NamesAscend
names_ascend files = sorted_keys (entries files) (entries_sorted files)

-- ---- runs

pub overwrites : Overwrites
overwrites want names files name = (
  λ there. get-overwritten want names files name ∙ ap (λ b. cond b (want name) (get files name)) (among name names there),
  λ out. get-overwritten want names files name ∙ ap (λ b. cond b (want name) (get files name)) (not_among name names out),
)

pub stops_leave_others : StopsLeaveOthers
stops_leave_others want names files files' log log' stop name out = outside_stays want names files name stop (not_among name names out)

pub stops_log_a_front : StopsLogAFront
stops_log_a_front steps log files files' log' stop =
    subst (λ o. IfSome o (λ after. (n : ℕ) × (n ≤ length steps) × (after ≡ log ++ map change_of (take n steps)))) (sym (stop.logged ∙ log_of_told (take stop.noted steps) log))
    (stop.noted, stop.noted_of, refl)
