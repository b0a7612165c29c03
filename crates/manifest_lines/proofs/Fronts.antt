-- What bytes begin with, line by line.
use Rattle.std.specs.Prelude.{◌≡◌, ℕ, ℤ, pos, zero, suc, ◌+◌, ◌-ℤ◌, ◌<◌, ◌≤◌, ◌≤ℤ◌, List, [], ◌∷◌, ◌++◌, length, map, take, drop, codes, refl}
use Rattle.std.specs.List.{AllByRecursion}
use Rattle.std.specs.List.Sorted.{IsStrictlySortedBy}
use Rattle.std.proofs.Common.{arith, ap, sym, subst, ◌∙◌, append_assoc, append-nil, get_or}
use Rattle.std.proofs.Math.Seq.{take-append-add}
use Rattle.std.proofs.lemmas.List.{take-append-drop, take-map, take_all, length-take-le, append_cancel_left}
use Rattle.std.proofs.lemmas.Fmt.{decimal_injective, signed_decimal_injective}
use Rattle.terrain_base.specs.declared.params.Params.{Params}
use Rattle.manifest_lines.specs.declared.state.State.{State}
use Rattle.manifest_lines.specs.declared.state.State.TheVariants.{Closed, Put, Drop, Rebuild}
use Rattle.manifest_lines.specs.declared.version.Version.{Version}
use Rattle.manifest_lines.specs.Grammar.{Grammar, IsGrammar}
use Rattle.manifest_lines.specs.Line.{ended}
use Rattle.manifest_lines.specs.Manifest.{Contents, HasLines, IsStateOf, Ascend, AreRowsOf, state_word, head_lines, lines_of, manifest_text}
use Rattle.manifest_lines.specs.Refused.{Begins, IsFirstBad}
use Rattle.manifest_lines.specs.Rows.{HasRows, AreRows, IsBadRow}
use Rattle.manifest_lines.proofs.Lines.{lines-head, ended-append, same_front, small_fill}
use Rattle.std.specs.Coded.{le_prop}
use Rattle.std.proofs.Math.Dec.{T_prop}
use mathlib.Core.HLevel.{is_prop→PathP}

-- ---- parts of lists

pub all-take : {A : Type 0} (P : A → Type 0) (n : ℕ) (xs : List A) → AllByRecursion P xs → AllByRecursion P (take n xs)
all-take P zero xs p = tt
all-take P (suc n) [] p = tt
all-take P (suc n) (x ∷ xs) p = (p.0, all-take P n xs p.1)

pub ascend-take : {R : Type 0} (g : Grammar R) (n : ℕ) (rows : List R) → Ascend g rows → Ascend g (take n rows)
unfolding IsStrictlySortedBy
ascend-take g zero rows p = tt
ascend-take g (suc n) [] p = tt
ascend-take g (suc n) (x ∷ rows) p = (all-take _ n rows p.0, ascend-take g n rows p.1)

pub rows-take : {R : Type 0} (g : Grammar R) (v : Version) (n : ℕ) (rows : List R) → AreRowsOf g v rows → AreRowsOf g v (take n rows)
rows-take g v n rows p = (ascend-take g n rows p.0, all-take _ n rows p.1)

-- so many first lines are the lines of the first rows
head_and_rows : {R : Type 0} (g : Grammar R) (v : Version) (p : Params) (s : State R) (count n : ℕ) (rows : List R)
    → take (5 + n) (lines_of g v p s count rows) ≡ head_lines g v p s count ++ map g.text (take n rows)
head_and_rows g v p s count n rows = take-append-add (head_lines g v p s count) (map g.text rows) n ∙ ap (λ xs. head_lines g v p s count ++ xs) (take-map g.text n rows)

-- ---- the head is the same

pub same_count : {R : Type 0} (g : Grammar R) (v : Version) (p q : Params) (s t : State R) (m n : ℕ) → m ≤ 4096 → n ≤ 4096 → head_lines g v p s m ≡ head_lines g v q t n → m ≡ n
same_count g v p q s t m n few less e =
    decimal_injective m n (omega arith) (omega arith) (append_cancel_left (codes "cells ") _ _ (ap (λ ls. get_or ls 4 []) e))

byte_at : (n : ℕ) (xs ys : List ℕ) → xs ≡ ys → get_or xs n 0 ≡ get_or ys n 0
byte_at n xs ys e = ap (λ zs. get_or zs n 0) e

pub same_word : {R : Type 0} (g : Grammar R) → IsGrammar g → (s t : State R) → state_word g s ≡ state_word g t → s ≡ t
same_word g ok Closed Closed e = refl
same_word g ok Closed (Put k) e = absurd (omega (arith, byte_at 0 _ _ e))
same_word g ok Closed (Drop k) e = absurd (omega (arith, byte_at 0 _ _ e))
same_word g ok Closed Rebuild e = absurd (omega (arith, byte_at 0 _ _ e))
same_word g ok (Put j) Closed e = absurd (omega (arith, byte_at 0 _ _ e))
same_word g ok (Put j) (Put k) e = ap (λ x. Put x) (ok.apart j k (append_cancel_left (codes "put ") _ _ e))
same_word g ok (Put j) (Drop k) e = absurd (omega (arith, byte_at 0 _ _ e))
same_word g ok (Put j) Rebuild e = absurd (omega (arith, byte_at 0 _ _ e))
same_word g ok (Drop j) Closed e = absurd (omega (arith, byte_at 0 _ _ e))
same_word g ok (Drop j) (Put k) e = absurd (omega (arith, byte_at 0 _ _ e))
same_word g ok (Drop j) (Drop k) e = ap (λ x. Drop x) (ok.apart j k (append_cancel_left (codes "drop ") _ _ e))
same_word g ok (Drop j) Rebuild e = absurd (omega (arith, byte_at 0 _ _ e))
same_word g ok Rebuild Closed e = absurd (omega (arith, byte_at 0 _ _ e))
same_word g ok Rebuild (Put k) e = absurd (omega (arith, byte_at 0 _ _ e))
same_word g ok Rebuild (Drop k) e = absurd (omega (arith, byte_at 0 _ _ e))
same_word g ok Rebuild Rebuild e = refl

pub same_state : {R : Type 0} (g : Grammar R) → IsGrammar g → (v : Version) (p q : Params) (s t : State R) (m n : ℕ) → head_lines g v p s m ≡ head_lines g v q t n → s ≡ t
same_state g ok v p q s t m n e = same_word g ok s t (append_cancel_left (codes "state ") _ _ (ap (λ ls. get_or ls 3 []) e))

le_z_prop : (a b : ℤ) → IsProp (a ≤ℤ b)
le_z_prop a b = λ x y i. record { le = T_prop _ x.le y.le i }

pub same_params : (p q : Params) → p.cap ≡ q.cap → p.fill ≡ q.fill → p ≡ q
same_params p q c f = λ i. record {
  cap = c i;
  fill = f i;
  cap_in_range = is_prop→PathP (λ j. c j ≤ 14) (λ j. le_prop) p.cap_in_range q.cap_in_range i;
  fill_above = is_prop→PathP (λ j. (pos 0 -ℤ pos 16000) ≤ℤ f j) (λ j. le_z_prop _ _) p.fill_above q.fill_above i;
  fill_below = is_prop→PathP (λ j. f j ≤ℤ pos 16000) (λ j. le_z_prop _ _) p.fill_below q.fill_below i;
}

pub params_of_head : {R : Type 0} (g : Grammar R) (v : Version) (p q : Params) (s t : State R) (m n : ℕ) → head_lines g v p s m ≡ head_lines g v q t n → p ≡ q
params_of_head g v p q s t m n e =
    same_params p q
    (decimal_injective p.cap q.cap (omega (arith, p.cap_in_range)) (omega (arith, q.cap_in_range)) (append_cancel_left (codes "cap ") _ _ (ap (λ ls. get_or ls 1 []) e)))
    (signed_decimal_injective p.fill q.fill (small_fill p) (small_fill q) (append_cancel_left (codes "fill ") _ _ (ap (λ ls. get_or ls 2 []) e)))

-- ---- from bytes to what lies behind their head

-- what is known of bytes whose head was read
pub record HasHead {R : Type 0} (g : Grammar R) (v : Version) (params : Params) (state : State R) (count : ℕ) (rest bytes : List ℕ) : Type 0 where
  pub named : IsStateOf g v state
  pub few : count ≤ 4096
  pub same : bytes ≡ ended (head_lines g v params state count) ++ rest

pub behind_head : (h l : List (List ℕ)) (r : List ℕ) → ended (h ++ l) ++ r ≡ ended h ++ (ended l ++ r)
behind_head h l r = ap (λ xs. xs ++ r) (ended-append h l) ∙ append_assoc (ended h) (ended l) r

pub rows_of_begins : {R : Type 0} (g : Grammar R) → IsGrammar g → (v : Version) (p : Params) (s : State R) (count n : ℕ) (rest bytes : List ℕ) → HasHead g v p s count rest bytes → Begins g v (5 + n) bytes → HasRows g v count n rest
rows_of_begins g ok v p s count n rest bytes h b =
    let whole : bytes ≡ ended (head_lines g v b.params b.state b.count) ++ (ended (map g.text (take n b.rows)) ++ b.rest) =
    b.same ∙ ap (λ ls. ended ls ++ b.rest) (head_and_rows g v b.params b.state b.count n b.rows) ∙ behind_head (head_lines g v b.params b.state b.count) (map g.text (take n b.rows)) b.rest in
    let both = same_front (head_lines g v p s count) (head_lines g v b.params b.state b.count) rest (ended (map g.text (take n b.rows)) ++ b.rest) (lines-head g ok v p s count h.few) (lines-head g ok v b.params b.state b.count b.few) refl (sym h.same ∙ whole) in
    let counts : count ≡ b.count = same_count g v p b.params s b.state count b.count h.few b.few both.0 in
    record {
      rows = take n b.rows;
      rest = b.rest;
      announced = omega (arith, b.announced, b.reached);
      number = length-take-le n b.rows (omega (arith, b.reached));
      ascend = rows-take g v n b.rows b.ascend;
      same = both.1;
    }

pub begins_of_rows : {R : Type 0} (g : Grammar R) (v : Version) (p : Params) (s : State R) (count n : ℕ) (rest bytes : List ℕ) → HasHead g v p s count rest bytes → HasRows g v count n rest → Begins g v (5 + n) bytes
begins_of_rows g v p s count n rest bytes h b = record {
  params = p;
  state = s;
  named = h.named;
  count = count;
  rows = b.rows;
  rest = b.rest;
  few = h.few;
  announced = omega (arith, b.number, b.announced);
  ascend = b.ascend;
  reached = omega (arith, b.number);
  same = h.same ∙ ap (λ xs. ended (head_lines g v p s count) ++ xs) b.same ∙ sym (behind_head (head_lines g v p s count) (map g.text b.rows) b.rest)
      ∙ sym (ap (λ ls. ended ls ++ b.rest) (head_and_rows g v p s count n b.rows ∙ ap (λ rs. head_lines g v p s count ++ map g.text rs) (take_all n b.rows (omega (arith, b.number)))));
}

pub begins_before : {R : Type 0} (g : Grammar R) (v : Version) (m n : ℕ) (bytes : List ℕ) → m ≤ n → Begins g v n bytes → Begins g v m bytes
begins_before g v m n bytes less b =
    let lines = take n (lines_of g v b.params b.state b.count b.rows) in
    record {
      params = b.params;
      state = b.state;
      named = b.named;
      count = b.count;
      rows = b.rows;
      rest = ended (drop m lines) ++ b.rest;
      few = b.few;
      announced = b.announced;
      ascend = b.ascend;
      reached = omega (arith, b.reached);
      same = b.same ∙ ap (λ ls. ended ls ++ b.rest) (sym (take-append-drop m lines)) ∙ behind_head (take m lines) (drop m lines) b.rest ∙ ap (λ ls. ended ls ++ (ended (drop m lines) ++ b.rest)) (take_less m n (lines_of g v b.params b.state b.count b.rows) less);
    }
  where
    take_less : {A : Type 0} (m n : ℕ) (xs : List A) → m ≤ n → take m (take n xs) ≡ take m xs
    take_less zero n xs h = refl
    take_less (suc m) zero xs h = absurd (omega arith)
    take_less (suc m) (suc n) [] h = refl
    take_less (suc m) (suc n) (x ∷ xs) h = ap (λ ys. x ∷ ys) (take_less m n xs (omega arith))

-- ---- the texts of manifests

pub head_of : {R : Type 0} (g : Grammar R) (v : Version) (m : Contents R) → HasLines g v m
    → HasHead g v m.params m.state (length m.rows) (ended (map g.text m.rows)) (manifest_text g v m)
unfolding manifest_text
head_of g v m good = record {
  named = good.state;
  few = good.few;
  same = ended-append (head_lines g v m.params m.state (length m.rows)) (map g.text m.rows);
}

pub head_with : {R : Type 0} (g : Grammar R) (v : Version) (p : Params) (s : State R) (count : ℕ) (rest a b : List ℕ) → a ≡ b → HasHead g v p s count rest b → HasHead g v p s count rest a
head_with g v p s count rest a b e h = record { named = h.named; few = h.few; same = e ∙ h.same }

pub text_begins : {R : Type 0} (g : Grammar R) (v : Version) (m : Contents R) (n : ℕ) (bytes : List ℕ) → HasLines g v m → n ≤ 5 + length m.rows → bytes ≡ manifest_text g v m → Begins g v n bytes
text_begins g v m n bytes good reached e =
    begins_before g v n (5 + length m.rows) bytes reached (begins_of_rows g v m.params m.state (length m.rows) (length m.rows) (ended (map g.text m.rows)) bytes
    (head_with g v m.params m.state (length m.rows) (ended (map g.text m.rows)) bytes (manifest_text g v m) e (head_of g v m good))
    (record { rows = m.rows; rest = []; announced = omega arith; number = refl; ascend = good.rows; same = sym (append-nil _) }))

pub record TextIs {R : Type 0} (g : Grammar R) (v : Version) (p : Params) (s : State R) (number : ℕ) (rest : List ℕ) (m : Contents R) : Type 0 where
  pub params : p ≡ m.params
  pub state : s ≡ m.state
  pub count : number ≡ length m.rows
  pub rows : AreRows g v rest m.rows

pub text_is : {R : Type 0} (g : Grammar R) → IsGrammar g → (v : Version) (m : Contents R) (p : Params) (s : State R) (count : ℕ) (rest bytes : List ℕ) → HasHead g v p s count rest bytes
    → HasLines g v m → bytes ≡ manifest_text g v m → TextIs g v p s count rest m
text_is g ok v m p s count rest bytes h good e =
    let both = same_front (head_lines g v p s count) (head_lines g v m.params m.state (length m.rows)) rest (ended (map g.text m.rows)) (lines-head g ok v p s count h.few) (lines-head g ok v m.params m.state (length m.rows) good.few) refl
    (sym h.same ∙ e ∙ (head_of g v m good).same) in
    record {
      params = params_of_head g v p m.params s m.state count (length m.rows) both.0;
      state = same_state g ok v p m.params s m.state count (length m.rows) both.0;
      count = same_count g v p m.params s m.state count (length m.rows) h.few good.few both.0;
      rows = record { ascend = good.rows; same = both.1 };
    }

-- ---- the first bad line

pub bad_row : {R : Type 0} (g : Grammar R) → IsGrammar g → (v : Version) (p : Params) (s : State R) (count line : ℕ) (rest bytes : List ℕ) → HasHead g v p s count rest bytes
    → IsBadRow g v count line rest → IsFirstBad g v line bytes
bad_row g ok v p s count line rest bytes h bad = record {
  least = record {
    before = λ n less.
        let rows = begins_of_rows g v p s count bad.good rest bytes h bad.before in
        begins_before g v n (5 + bad.good) bytes (omega (arith, bad.numbered)) rows;
    here = λ b.
        let even : line ≡ 5 + (bad.good + 1) = omega (arith, bad.numbered) in
        let begins = subst (λ k. Begins g v k bytes) even b in
        bad.here (rows_of_begins g ok v p s count (bad.good + 1) rest bytes h begins);
  };
  wrong = λ m good e. let t = text_is g ok v m p s count rest bytes h good e in bad.wrong m.rows (sym t.count) t.rows;
}

-- the head is bad at the line behind n good ones
pub bad_head : {R : Type 0} (g : Grammar R) (v : Version) (p : Params) (s : State R) → IsStateOf g v s → (n : ℕ) (rest bytes : List ℕ) → n < 5 → bytes ≡ ended (take n (head_lines g v p s 0)) ++ rest
    → ((b : Begins g v (n + 1) bytes) → ⊥) → IsFirstBad g v (n + 1) bytes
unfolding IsStrictlySortedBy
bad_head g v p s named n rest bytes within e here =
    let good : Begins g v n bytes = record {
      params = p;
      state = s;
      named = named;
      count = 0;
      rows = [];
      rest = rest;
      few = omega arith;
      announced = omega arith;
      ascend = (tt, tt);
      reached = omega arith;
      same = e;
    } in
    record {
      least = record { before = λ k less. begins_before g v k n bytes (omega arith) good; here = here };
      wrong = λ m is text. here (text_begins g v m (n + 1) bytes is (omega arith) text);
    }
