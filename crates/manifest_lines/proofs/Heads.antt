-- The first bad line among the five before the rows.
use Rattle.std.specs.Prelude.{◌≡◌, ◌≢◌, ℕ, ℤ, pos, ◌+◌, ◌<◌, ◌≤◌, List, [], ◌∷◌, ◌++◌, length, map, take, codes, decimal, refl}
use Rattle.std.specs.Fmt.{signed_decimal}
use Rattle.std.specs.List.{AllByRecursion}
use Rattle.std.proofs.Common.{arith, ap, sym, ◌∙◌, add-one, append_assoc, get_or}
use Rattle.std.specs.Int.Signed.{le_z_yes}
use Rattle.std.proofs.Math.Seq.{take-suc}
use Rattle.std.proofs.lemmas.List.{length-take-le}
use Rattle.terrain_base.specs.Height.{IsHeight}
use Rattle.terrain_base.specs.declared.params.Params.{Params}
use Rattle.manifest_lines.specs.declared.state.State.{State}
use Rattle.manifest_lines.specs.declared.state.State.TheVariants.{Closed}
use Rattle.manifest_lines.specs.declared.version.Version.{Version}
use Rattle.manifest_lines.specs.Grammar.{Grammar, IsGrammar}
use Rattle.manifest_lines.specs.Version.{version_line, first_line}
use Rattle.manifest_lines.specs.Manifest.{IsStateOf, cap_line, state_line, cells_line, head_lines, lines_of}
use Rattle.manifest_lines.specs.Refused.{Begins, IsFirstBad}
use Rattle.manifest_lines.specs.Line.{IsLine, ended}
use Rattle.manifest_lines.proofs.Lines.{AreLines, lines-head, lines-rows, same_front}
use Rattle.manifest_lines.proofs.Fronts.{all-take, behind_head, bad_head}
use Rattle.manifest_lines.proofs.Readers.{NoNumber, NoFill, NoState}

all-append : {A : Type 0} (P : A → Type 0) (xs ys : List A) → AllByRecursion P xs → AllByRecursion P ys → AllByRecursion P (xs ++ ys)
all-append P [] ys p q = q
all-append P (x ∷ xs) ys p q = (p.0, all-append P xs ys p.1 q)

-- the line behind the first n, where the bytes are known up to there
next_of : (ls ms : List (List ℕ)) (n : ℕ) (rest after bytes : List ℕ) → AreLines ls → AreLines ms → length ls ≡ n → n < length ms
    → bytes ≡ ended ls ++ rest → bytes ≡ ended (take (n + 1) ms) ++ after → rest ≡ get_or ms n [] ++ 10 ∷ after
next_of ls ms n rest after bytes p q number within e f =
    let next : take (n + 1) ms ≡ take n ms ++ get_or ms n [] ∷ [] = rw add-one (take-suc ms n [] within) in
    let whole : bytes ≡ ended (take n ms) ++ (ended (get_or ms n [] ∷ []) ++ after) = f ∙ ap (λ l. ended l ++ after) next ∙ behind_head (take n ms) (get_or ms n [] ∷ []) after in
    let both = same_front ls (take n ms) rest (ended (get_or ms n [] ∷ []) ++ after) p (all-take IsLine n ms q) (number ∙ sym (length-take-le n ms (omega arith))) (sym e ∙ whole) in
    both.1 ∙ append_assoc (get_or ms n []) (10 ∷ []) after

next_line : {R : Type 0} (g : Grammar R) → IsGrammar g → (v : Version) (ls : List (List ℕ)) (n : ℕ) (rest bytes : List ℕ) → AreLines ls → length ls ≡ n → n < 5 → bytes ≡ ended ls ++ rest
    → (b : Begins g v (n + 1) bytes) → rest ≡ get_or (lines_of g v b.params b.state b.count b.rows) n [] ++ 10 ∷ b.rest
next_line g ok v ls n rest bytes p number within e b =
    next_of ls (lines_of g v b.params b.state b.count b.rows) n rest b.rest bytes p
    (all-append IsLine (head_lines g v b.params b.state b.count) (map g.text b.rows) (lines-head g ok v b.params b.state b.count b.few) (lines-rows g ok b.rows))
    number (omega arith) e b.same

-- one more line is known
add_line : (ls : List (List ℕ)) (line bytes rest after : List ℕ) → bytes ≡ ended ls ++ rest → rest ≡ line ++ 10 ∷ after → bytes ≡ ended (ls ++ line ∷ []) ++ after
add_line ls line bytes rest after e f =
    e ∙ ap (λ xs. ended ls ++ xs) (f ∙ sym (append_assoc line (10 ∷ []) after)) ∙ sym (behind_head ls (line ∷ []) after)

params_with : (cap : ℕ) (fill : ℤ) → cap ≤ 14 → IsHeight fill → Params
params_with cap fill h is = record { cap = cap; fill = fill; cap_in_range = h; fill_above = is.above; fill_below = is.below }

zero_height : IsHeight (pos 0)
zero_height = record { above = le_z_yes tt; below = le_z_yes tt }

some_params : (cap : ℕ) → cap ≤ 14 → Params
some_params cap h = params_with cap (pos 0) h zero_height

lines_so_far : {R : Type 0} (g : Grammar R) → IsGrammar g → (v : Version) (p : Params) (s : State R) (n : ℕ) → AreLines (take n (head_lines g v p s 0))
lines_so_far g ok v p s n = all-take IsLine n (head_lines g v p s 0) (lines-head g ok v p s 0 (omega arith))

-- ---- what was read, line by line

pub record ReadCap (v : Version) (cap : ℕ) (rest bytes : List ℕ) : Type 0 where
  pub start : List ℕ
  pub version : bytes ≡ first_line v ++ start
  pub cap_in_range : cap ≤ 14
  pub cap_line : start ≡ (codes "cap " ++ decimal cap) ++ 10 ∷ rest

pub record ReadFill (v : Version) (cap : ℕ) (fill : ℤ) (rest bytes : List ℕ) : Type 0 where
  pub start : List ℕ
  pub before : ReadCap v cap start bytes
  pub height : IsHeight fill
  pub fill_line : start ≡ (codes "fill " ++ signed_decimal fill) ++ 10 ∷ rest

pub record ReadState {R : Type 0} (g : Grammar R) (v : Version) (cap : ℕ) (fill : ℤ) (state : State R) (rest bytes : List ℕ) : Type 0 where
  pub start : List ℕ
  pub before : ReadFill v cap fill start bytes
  pub named : IsStateOf g v state
  pub state_line : start ≡ state_line g state ++ 10 ∷ rest

after_version : (v : Version) (rest bytes : List ℕ) → bytes ≡ first_line v ++ rest → bytes ≡ ended (version_line v ∷ []) ++ rest
after_version v rest bytes e = e

after_cap : (v : Version) (cap : ℕ) (rest bytes : List ℕ) → ReadCap v cap rest bytes → bytes ≡ ended (version_line v ∷ cap_line cap ∷ []) ++ rest
after_cap v cap rest bytes r = add_line (version_line v ∷ []) (cap_line cap) bytes r.start rest (after_version v r.start bytes r.version) r.cap_line

after_fill : (v : Version) (cap : ℕ) (fill : ℤ) (rest bytes : List ℕ) → ReadFill v cap fill rest bytes
    → bytes ≡ ended (version_line v ∷ cap_line cap ∷ (codes "fill " ++ signed_decimal fill) ∷ []) ++ rest
after_fill v cap fill rest bytes r = add_line (version_line v ∷ cap_line cap ∷ []) (codes "fill " ++ signed_decimal fill) bytes r.start rest (after_cap v cap r.start bytes r.before) r.fill_line

after_state : {R : Type 0} (g : Grammar R) (v : Version) (cap : ℕ) (fill : ℤ) (s : State R) (rest bytes : List ℕ) → ReadState g v cap fill s rest bytes
    → bytes ≡ ended (version_line v ∷ cap_line cap ∷ (codes "fill " ++ signed_decimal fill) ∷ state_line g s ∷ []) ++ rest
after_state g v cap fill s rest bytes r =
    add_line (version_line v ∷ cap_line cap ∷ (codes "fill " ++ signed_decimal fill) ∷ []) (state_line g s) bytes r.start rest (after_fill v cap fill r.start bytes r.before) r.state_line

-- ---- where the next line is bad

pub bad_version : {R : Type 0} (g : Grammar R) → IsGrammar g → (v : Version) (bytes : List ℕ) → ((rest : List ℕ) → bytes ≢ first_line v ++ rest) → IsFirstBad g v 1 bytes
bad_version g ok v bytes none =
    let p = some_params 0 (omega arith) in
    bad_head g v p Closed tt 0 bytes bytes (omega arith) refl
    (λ b. none b.rest (next_line g ok v [] 0 bytes bytes tt refl (omega arith) refl b ∙ sym (append_assoc (version_line v) (10 ∷ []) b.rest)))

pub bad_cap : {R : Type 0} (g : Grammar R) → IsGrammar g → (v : Version) (bytes start : List ℕ) → bytes ≡ first_line v ++ start → NoNumber 14 (codes "cap ") start → IsFirstBad g v 2 bytes
bad_cap g ok v bytes start e none =
    let p = some_params 0 (omega arith) in
    bad_head g v p Closed tt 1 start bytes (omega arith) (after_version v start bytes e)
    (λ b. none b.params.cap b.rest b.params.cap_in_range (next_line g ok v (version_line v ∷ []) 1 start bytes (lines_so_far g ok v p Closed 1) refl (omega arith) (after_version v start bytes e) b))

pub bad_fill : {R : Type 0} (g : Grammar R) → IsGrammar g → (v : Version) (cap : ℕ) (rest bytes : List ℕ) → ReadCap v cap rest bytes → NoFill rest → IsFirstBad g v 3 bytes
unfolding some_params params_with
bad_fill g ok v cap rest bytes r none =
    let p = some_params cap r.cap_in_range in
    let e = after_cap v cap rest bytes r in
    bad_head g v p Closed tt 2 rest bytes (omega arith) e
    (λ b. none b.params.fill b.rest (record { above = b.params.fill_above; below = b.params.fill_below })
    (next_line g ok v (take 2 (head_lines g v p Closed 0)) 2 rest bytes (lines_so_far g ok v p Closed 2) refl (omega arith) e b))

pub bad_state : {R : Type 0} (g : Grammar R) → IsGrammar g → (v : Version) (cap : ℕ) (fill : ℤ) (rest bytes : List ℕ) → ReadFill v cap fill rest bytes → NoState g v rest → IsFirstBad g v 4 bytes
unfolding params_with
bad_state g ok v cap fill rest bytes r none =
    let p = params_with cap fill r.before.cap_in_range r.height in
    let e = after_fill v cap fill rest bytes r in
    bad_head g v p Closed tt 3 rest bytes (omega arith) e
    (λ b. none b.state b.rest b.named (next_line g ok v (take 3 (head_lines g v p Closed 0)) 3 rest bytes (lines_so_far g ok v p Closed 3) refl (omega arith) e b))

pub bad_count : {R : Type 0} (g : Grammar R) → IsGrammar g → (v : Version) (cap : ℕ) (fill : ℤ) (s : State R) (rest bytes : List ℕ) → ReadState g v cap fill s rest bytes
    → NoNumber 4096 (codes "cells ") rest → IsFirstBad g v 5 bytes
unfolding params_with
bad_count g ok v cap fill s rest bytes r none =
    let p = params_with cap fill r.before.before.cap_in_range r.before.height in
    let e = after_state g v cap fill s rest bytes r in
    bad_head g v p s r.named 4 rest bytes (omega arith) e
    (λ b. none b.count b.rest b.few (next_line g ok v (take 4 (head_lines g v p s 0)) 4 rest bytes (lines_so_far g ok v p s 4) refl (omega arith) e b))

-- ---- where all five are good

pub good_head : {R : Type 0} (g : Grammar R) (v : Version) (cap count : ℕ) (fill value : ℤ) (s : State R) (start rest bytes : List ℕ) → ReadState g v cap fill s start bytes
    → start ≡ (codes "cells " ++ decimal count) ++ 10 ∷ rest
    → fill ≡ value → bytes ≡ ended (version_line v ∷ cap_line cap ∷ (codes "fill " ++ signed_decimal value) ∷ state_line g s ∷ cells_line count ∷ []) ++ rest
good_head g v cap count fill value s start rest bytes r e same =
    add_line (version_line v ∷ cap_line cap ∷ (codes "fill " ++ signed_decimal fill) ∷ state_line g s ∷ []) (cells_line count) bytes start rest (after_state g v cap fill s start bytes r) e
    ∙ ap (λ z. ended (version_line v ∷ cap_line cap ∷ (codes "fill " ++ signed_decimal z) ∷ state_line g s ∷ cells_line count ∷ []) ++ rest) same
