-- Keys stand for heights: the least and the greatest key are the least and the greatest height.
use Rattle.std.proofs.Common.{◌≡◌, ℕ, pos, ◌+ℤ◌, ◌-ℤ◌, ◌+◌, ◌-◌, ◌%◌, ◌<◌, ◌≤◌, cond, ◌↔◌, List, [], ◌∷◌, map, min, max, fold, Option, Some, None, refl, sym, ap, ap₂, ◌∙◌, inl, inr, subst, arith, neg_ℤ, lt-ltb, le-ltb, eq-eqb, ne_eqb}
use Rattle.std.specs.Prelude.{⊤}
use Rattle.std.proofs.lemmas.Int.{ints, clamps}
use Rattle.std.proofs.lemmas.Bool.{cases_lt, cases_eq}
use Rattle.terrain_base.specs.declared.post.Post.{Post}
use Rattle.terrain_base.specs.declared.post.Post.TheVariants.{Void, Metres}
use Rattle.terrain_base.specs.declared.post.Extremes.{Extremes}
use Rattle.dted_cell.specs.Elevation.{IsElevation, post_of, signed_of}
use Rattle.dted_cell.specs.Cell.{widened}
use Rattle.dted_cell.specs.Words.{key, low_key, least_of, greatest_of, extremes_from}

-- each is a word of two bytes
abbrev pub AreWords : List ℕ → Type 0
AreWords [] = ⊤
AreWords (w ∷ ws) = (w < 65536) × AreWords ws

-- and void or at most 16000 metres above or below 0
abbrev pub AreHeights : List ℕ → Type 0
AreHeights [] = ⊤
AreHeights (w ∷ ws) = (w < 65536) × (IsElevation w × AreHeights ws)

-- ---- a post, and its keys
Coded : Post → ℕ → ℕ → Type 0
Coded Void low k = (low ≡ 65535) × (k ≤ 1)
Coded (Metres z) low k = (z +ℤ pos 32768 ≡ pos k) × ((low ≡ k) × ((2 ≤ k) × (k ≤ 48768)))

KeysHold : Option Extremes → ℕ → ℕ → Type 0
KeysHold None l g = (l ≡ 65535) × (g ≤ 1)
KeysHold (Some e) l g = (e.least +ℤ pos 32768 ≡ pos l) × ((e.greatest +ℤ pos 32768 ≡ pos g) × ((l ≤ 48768) × (2 ≤ g)))

step : (o : Option Extremes) (l g : ℕ) (post : Post) (low k : ℕ) → KeysHold o l g → Coded post low k → KeysHold (widened o post) (min l low) (max g k)
unfolding KeysHold Coded
step None l g Void low k h c = (omega (arith, h.0, c.0), omega (arith, h.1, c.1))
step (Some e) l g Void low k h c =
    let least : min l low ≡ l = omega (arith, h.1.1.0, c.0) in
    let greatest : max g k ≡ g = omega (arith, h.1.1.1, c.1) in
    (h.0 ∙ ap pos (sym least), (h.1.0 ∙ ap pos (sym greatest), (omega (arith, least, h.1.1.0), omega (arith, greatest, h.1.1.1))))
step None l g (Metres z) low k h c =
    let least : min l low ≡ k = omega (arith, h.0, c.1.0, c.1.1.1) in
    let greatest : max g k ≡ k = omega (arith, h.1, c.1.1.0) in
    (c.0 ∙ ap pos (sym least), (c.0 ∙ ap pos (sym greatest), (omega (arith, least, c.1.1.1), omega (arith, greatest, c.1.1.0))))
step (Some e) l g (Metres z) low k h c =
    (omega (arith, ints, clamps, h.0, c.0, c.1.0), (omega (arith, ints, clamps, h.1.0, c.0), (omega (arith, h.1.1.0), omega (arith, h.1.1.1))))

-- ---- the code of a word
low_is : (w : ℕ) → (w ≡ 65535 → ⊥) → low_key w ≡ key w
low_is w h = ap (λ b. cond b 65535 (key w)) (ne_eqb w 65535 h)

post_is : (w : ℕ) → (w ≡ 65535 → ⊥) → Metres (signed_of w) ≡ post_of w
post_is w h = ap (λ b. cond b Void (Metres (signed_of w))) (sym (ne_eqb w 65535 h))

north : (w : ℕ) → w < 32768 → (signed_of w ≡ pos w) × (key w ≡ w + 32768)
north w h = (ap (λ b. cond b (pos w) (neg_ℤ (pos (w - 32768)))) (lt-ltb w 32768 h), ap (λ b. cond b (w + 32768) (65536 - w)) (lt-ltb w 32768 h))

south : (w : ℕ) → 32768 ≤ w → (signed_of w ≡ neg_ℤ (pos (w - 32768))) × (key w ≡ 65536 - w)
south w h = (ap (λ b. cond b (pos w) (neg_ℤ (pos (w - 32768)))) (le-ltb w 32768 h), ap (λ b. cond b (w + 32768) (65536 - w)) (le-ltb w 32768 h))

key_is : (w : ℕ) → w < 65536 → signed_of w +ℤ pos 32768 ≡ pos (key w)
key_is w lt = elim (cases_lt w 32768) [
  | inl h ↦ let is = north w h in omega (arith, ints, is.0, is.1)
  | inr h ↦ let is = south w h in omega (arith, ints, is.0, is.1, h, lt)
]

key_bounds : (w : ℕ) → w < 65536 → w % 32768 ≤ 16000 → (2 ≤ key w) × (key w ≤ 48768)
key_bounds w lt small = elim (cases_lt w 32768) [
  | inl h ↦ let is = north w h in (omega (arith, is.1), omega (arith, is.1, h, small))
  | inr h ↦ let is = south w h in (omega (arith, is.1, h, lt, small), omega (arith, is.1, h))
]

coded : (w : ℕ) → w < 65536 → IsElevation w → Coded (post_of w) (low_key w) (key w)
unfolding Coded
coded w lt (inl void) = subst (λ v. Coded (post_of v) (low_key v) (key v)) (sym void) (refl, omega arith)
coded w lt (inr small) =
    let not_void : w ≡ 65535 → ⊥ = λ e. absurd (omega (arith, e, small)) in
    subst (λ p. Coded p (low_key w) (key w)) (post_is w not_void) (key_is w lt, (low_is w not_void, key_bounds w lt small))

-- ---- all words
min_assoc : (x y z : ℕ) → min (min x y) z ≡ min x (min y z)
min_assoc x y z = omega arith

max_assoc : (x y z : ℕ) → max (max x y) z ≡ max x (max y z)
max_assoc x y z = omega arith

least_end : (o : Option Extremes) (l g : ℕ) → KeysHold o l g → min l 65535 ≡ l
unfolding KeysHold
least_end None l g h = omega (arith, h.0)
least_end (Some e) l g h = omega (arith, h.1.1.0)

greatest_end : (g : ℕ) → max g 0 ≡ g
greatest_end g = omega arith

over : (ws : List ℕ) (o : Option Extremes) (l g : ℕ) → AreHeights ws → KeysHold o l g → KeysHold (fold widened o (map post_of ws)) (min l (least_of (map low_key ws))) (max g (greatest_of (map key ws)))
over [] o l g all h = subst (λ n. KeysHold o n (max g 0)) (sym (least_end o l g h)) (subst (λ n. KeysHold o l n) (sym (greatest_end g)) h)
over (w ∷ ws) o l g all h =
    let next = over ws (widened o (post_of w)) (min l (low_key w)) (max g (key w)) all.1.1 (step o l g (post_of w) (low_key w) (key w) h (coded w all.0 all.1.0)) in
    subst (λ n. KeysHold (fold widened o (map post_of (w ∷ ws))) n (max g (greatest_of (map key (w ∷ ws))))) (min_assoc l (low_key w) (least_of (map low_key ws)))
    (subst (λ n. KeysHold (fold widened o (map post_of (w ∷ ws))) (min (min l (low_key w)) (least_of (map low_key ws))) n) (max_assoc g (key w) (greatest_of (map key ws))) next)

from_keys : (o : Option Extremes) (l g : ℕ) → KeysHold o l g → o ≡ extremes_from l g
unfolding KeysHold
from_keys None l g h = ap (λ b. cond b None (Some (record { least = pos l -ℤ pos 32768; greatest = pos g -ℤ pos 32768 }))) (sym (eq-eqb l 65535 h.0))
from_keys (Some e) l g h =
    let least : e.least ≡ pos l -ℤ pos 32768 = omega (arith, ints, h.0) in
    let greatest : e.greatest ≡ pos g -ℤ pos 32768 = omega (arith, ints, h.1.0) in
    let not_top : l ≡ 65535 → ⊥ = λ e. absurd (omega (arith, e, h.1.1.0)) in
    ap₂ (λ x y. Some (record { least = x; greatest = y })) least greatest
    ∙ ap (λ b. cond b None (Some (record { least = pos l -ℤ pos 32768; greatest = pos g -ℤ pos 32768 }))) (sym (ne_eqb l 65535 not_top))

start : KeysHold None 65535 0
unfolding KeysHold
start = (refl, omega arith)

least_top : (ws : List ℕ) → least_of ws ≤ 65535
least_top [] = omega arith
least_top (w ∷ ws) = omega (arith, least_top ws)

pub keys_give_extremes : (ws : List ℕ) → AreHeights ws → fold widened None (map post_of ws) ≡ extremes_from (least_of (map low_key ws)) (greatest_of (map key ws))
keys_give_extremes ws all =
    let least : min 65535 (least_of (map low_key ws)) ≡ least_of (map low_key ws) = omega (arith, least_top (map low_key ws)) in
    let greatest : max 0 (greatest_of (map key ws)) ≡ greatest_of (map key ws) = omega arith in
    from_keys _ _ _ (over ws None 65535 0 all start) ∙ ap₂ extremes_from least greatest

-- ---- whether the words are elevations
judged : (w : ℕ) → w < 65536 → key w ≤ 48768 → 16768 ≤ low_key w → IsElevation w
judged w lt high low = elim (cases_eq w 65535) [
  | inl void ↦ inl void
  | inr not_void ↦ elim (cases_lt w 32768) [
    | inl h ↦ let is = north w h in inr (omega (arith, is.1, h, high))
    | inr h ↦ let is = south w h in inr (omega (arith, is.1, h, lt, low_is w not_void, low))
  ]
]

within : (w : ℕ) → w < 65536 → IsElevation w → (key w ≤ 48768) × (16768 ≤ low_key w)
within w lt (inl void) = subst (λ v. (key v ≤ 48768) × (16768 ≤ low_key v)) (sym void) (omega arith, omega arith)
within w lt (inr small) =
    let not_void : w ≡ 65535 → ⊥ = λ e. absurd (omega (arith, e, small)) in
    elim (cases_lt w 32768) [
      | inl h ↦ let is = north w h in (omega (arith, is.1, h, small), omega (arith, is.1, low_is w not_void))
      | inr h ↦ let is = south w h in (omega (arith, is.1, h), omega (arith, is.1, h, lt, small, low_is w not_void))
    ]

all_judged : (ws : List ℕ) → AreWords ws → greatest_of (map key ws) ≤ 48768 → 16768 ≤ least_of (map low_key ws) → AreHeights ws
all_judged [] words high low = tt
all_judged (w ∷ ws) words high low =
    (words.0, (judged w words.0 (omega (arith, high)) (omega (arith, low)), all_judged ws words.1 (omega (arith, high)) (omega (arith, low))))

all_within : (ws : List ℕ) → AreHeights ws → (greatest_of (map key ws) ≤ 48768) × (16768 ≤ least_of (map low_key ws))
all_within [] all = (omega arith, omega arith)
all_within (w ∷ ws) all =
    let here = within w all.0 all.1.0 in
    let rest = all_within ws all.1.1 in
    (omega (arith, here.0, rest.0), omega (arith, here.1, rest.1))

pub keys_judge : (ws : List ℕ) → AreWords ws → ((greatest_of (map key ws) ≤ 48768) × (16768 ≤ least_of (map low_key ws))) ↔ AreHeights ws
keys_judge ws words = (λ h. all_judged ws words h.0 h.1, λ all. all_within ws all)
