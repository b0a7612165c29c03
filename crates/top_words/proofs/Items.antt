-- A list of so many items is the list of its items.
use Rattle.std.proofs.Common.{◌≡◌, ◌<◌, ◌≤◌, List, [], ◌∷◌, length, get_or, sym, arith}

pub list_of_7 : {A : Type 0} (items : List A) (a b c d e f g : A) → a ≡ get_or items 0 a → b ≡ get_or items 1 b → c ≡ get_or items 2 c → d ≡ get_or items 3 d → e ≡ get_or items 4 e → f ≡ get_or items 5 f → g ≡ get_or items 6 g
    → 7 ≤ length items → length items < 8 → items ≡ a ∷ b ∷ c ∷ d ∷ e ∷ f ∷ g ∷ []
list_of_7 [] a b c d e f g at_a at_b at_c at_d at_e at_f at_g low high = absurd (omega (arith, low))
list_of_7 (xa ∷ []) a b c d e f g at_a at_b at_c at_d at_e at_f at_g low high = absurd (omega (arith, low))
list_of_7 (xa ∷ xb ∷ []) a b c d e f g at_a at_b at_c at_d at_e at_f at_g low high = absurd (omega (arith, low))
list_of_7 (xa ∷ xb ∷ xc ∷ []) a b c d e f g at_a at_b at_c at_d at_e at_f at_g low high = absurd (omega (arith, low))
list_of_7 (xa ∷ xb ∷ xc ∷ xd ∷ []) a b c d e f g at_a at_b at_c at_d at_e at_f at_g low high = absurd (omega (arith, low))
list_of_7 (xa ∷ xb ∷ xc ∷ xd ∷ xe ∷ []) a b c d e f g at_a at_b at_c at_d at_e at_f at_g low high = absurd (omega (arith, low))
list_of_7 (xa ∷ xb ∷ xc ∷ xd ∷ xe ∷ xf ∷ []) a b c d e f g at_a at_b at_c at_d at_e at_f at_g low high = absurd (omega (arith, low))
list_of_7 (xa ∷ xb ∷ xc ∷ xd ∷ xe ∷ xf ∷ xg ∷ []) a b c d e f g at_a at_b at_c at_d at_e at_f at_g low high =
    λ i. sym at_a i ∷ sym at_b i ∷ sym at_c i ∷ sym at_d i ∷ sym at_e i ∷ sym at_f i ∷ sym at_g i ∷ []
list_of_7 (xa ∷ xb ∷ xc ∷ xd ∷ xe ∷ xf ∷ xg ∷ more ∷ rest) a b c d e f g at_a at_b at_c at_d at_e at_f at_g low high = absurd (omega (arith, high))

pub list_of_8 : {A : Type 0} (items : List A) (a b c d e f g h : A) → a ≡ get_or items 0 a → b ≡ get_or items 1 b → c ≡ get_or items 2 c → d ≡ get_or items 3 d → e ≡ get_or items 4 e → f ≡ get_or items 5 f → g ≡ get_or items 6 g → h ≡ get_or items 7 h
    → 8 ≤ length items → length items < 9 → items ≡ a ∷ b ∷ c ∷ d ∷ e ∷ f ∷ g ∷ h ∷ []
list_of_8 [] a b c d e f g h at_a at_b at_c at_d at_e at_f at_g at_h low high = absurd (omega (arith, low))
list_of_8 (xa ∷ []) a b c d e f g h at_a at_b at_c at_d at_e at_f at_g at_h low high = absurd (omega (arith, low))
list_of_8 (xa ∷ xb ∷ []) a b c d e f g h at_a at_b at_c at_d at_e at_f at_g at_h low high = absurd (omega (arith, low))
list_of_8 (xa ∷ xb ∷ xc ∷ []) a b c d e f g h at_a at_b at_c at_d at_e at_f at_g at_h low high = absurd (omega (arith, low))
list_of_8 (xa ∷ xb ∷ xc ∷ xd ∷ []) a b c d e f g h at_a at_b at_c at_d at_e at_f at_g at_h low high = absurd (omega (arith, low))
list_of_8 (xa ∷ xb ∷ xc ∷ xd ∷ xe ∷ []) a b c d e f g h at_a at_b at_c at_d at_e at_f at_g at_h low high = absurd (omega (arith, low))
list_of_8 (xa ∷ xb ∷ xc ∷ xd ∷ xe ∷ xf ∷ []) a b c d e f g h at_a at_b at_c at_d at_e at_f at_g at_h low high = absurd (omega (arith, low))
list_of_8 (xa ∷ xb ∷ xc ∷ xd ∷ xe ∷ xf ∷ xg ∷ []) a b c d e f g h at_a at_b at_c at_d at_e at_f at_g at_h low high = absurd (omega (arith, low))
list_of_8 (xa ∷ xb ∷ xc ∷ xd ∷ xe ∷ xf ∷ xg ∷ xh ∷ []) a b c d e f g h at_a at_b at_c at_d at_e at_f at_g at_h low high =
    λ i. sym at_a i ∷ sym at_b i ∷ sym at_c i ∷ sym at_d i ∷ sym at_e i ∷ sym at_f i ∷ sym at_g i ∷ sym at_h i ∷ []
list_of_8 (xa ∷ xb ∷ xc ∷ xd ∷ xe ∷ xf ∷ xg ∷ xh ∷ more ∷ rest) a b c d e f g h at_a at_b at_c at_d at_e at_f at_g at_h low high = absurd (omega (arith, high))

pub list_of_10 : {A : Type 0} (items : List A) (a b c d e f g h p q : A) → a ≡ get_or items 0 a → b ≡ get_or items 1 b → c ≡ get_or items 2 c → d ≡ get_or items 3 d → e ≡ get_or items 4 e → f ≡ get_or items 5 f → g ≡ get_or items 6 g → h ≡ get_or items 7 h → p ≡ get_or items 8 p → q ≡ get_or items 9 q
    → 10 ≤ length items → length items < 11 → items ≡ a ∷ b ∷ c ∷ d ∷ e ∷ f ∷ g ∷ h ∷ p ∷ q ∷ []
list_of_10 [] a b c d e f g h p q at_a at_b at_c at_d at_e at_f at_g at_h at_p at_q low high = absurd (omega (arith, low))
list_of_10 (xa ∷ []) a b c d e f g h p q at_a at_b at_c at_d at_e at_f at_g at_h at_p at_q low high = absurd (omega (arith, low))
list_of_10 (xa ∷ xb ∷ []) a b c d e f g h p q at_a at_b at_c at_d at_e at_f at_g at_h at_p at_q low high = absurd (omega (arith, low))
list_of_10 (xa ∷ xb ∷ xc ∷ []) a b c d e f g h p q at_a at_b at_c at_d at_e at_f at_g at_h at_p at_q low high = absurd (omega (arith, low))
list_of_10 (xa ∷ xb ∷ xc ∷ xd ∷ []) a b c d e f g h p q at_a at_b at_c at_d at_e at_f at_g at_h at_p at_q low high = absurd (omega (arith, low))
list_of_10 (xa ∷ xb ∷ xc ∷ xd ∷ xe ∷ []) a b c d e f g h p q at_a at_b at_c at_d at_e at_f at_g at_h at_p at_q low high = absurd (omega (arith, low))
list_of_10 (xa ∷ xb ∷ xc ∷ xd ∷ xe ∷ xf ∷ []) a b c d e f g h p q at_a at_b at_c at_d at_e at_f at_g at_h at_p at_q low high = absurd (omega (arith, low))
list_of_10 (xa ∷ xb ∷ xc ∷ xd ∷ xe ∷ xf ∷ xg ∷ []) a b c d e f g h p q at_a at_b at_c at_d at_e at_f at_g at_h at_p at_q low high = absurd (omega (arith, low))
list_of_10 (xa ∷ xb ∷ xc ∷ xd ∷ xe ∷ xf ∷ xg ∷ xh ∷ []) a b c d e f g h p q at_a at_b at_c at_d at_e at_f at_g at_h at_p at_q low high = absurd (omega (arith, low))
list_of_10 (xa ∷ xb ∷ xc ∷ xd ∷ xe ∷ xf ∷ xg ∷ xh ∷ xp ∷ []) a b c d e f g h p q at_a at_b at_c at_d at_e at_f at_g at_h at_p at_q low high = absurd (omega (arith, low))
list_of_10 (xa ∷ xb ∷ xc ∷ xd ∷ xe ∷ xf ∷ xg ∷ xh ∷ xp ∷ xq ∷ []) a b c d e f g h p q at_a at_b at_c at_d at_e at_f at_g at_h at_p at_q low high =
    λ i. sym at_a i ∷ sym at_b i ∷ sym at_c i ∷ sym at_d i ∷ sym at_e i ∷ sym at_f i ∷ sym at_g i ∷ sym at_h i ∷ sym at_p i ∷ sym at_q i ∷ []
list_of_10 (xa ∷ xb ∷ xc ∷ xd ∷ xe ∷ xf ∷ xg ∷ xh ∷ xp ∷ xq ∷ more ∷ rest) a b c d e f g h p q at_a at_b at_c at_d at_e at_f at_g at_h at_p at_q low high = absurd (omega (arith, high))
