-- Words in lanes.
use Rattle.std.proofs.Common.{◌≡◌, ℕ, zero, suc, ◌+◌, ◌*◌, ◌-◌, ◌/◌, ◌%◌, ◌<◌, ◌≤◌, Bool, cond, ltb, eqb, List, [], ◌∷◌, ◌++◌, length, map, max, min, replicate, refl, sym, ap, ap₂, ◌∙◌, inl, inr, arith, Fits, w8, w16}
use Rattle.std.specs.Simd.Lanes.{zip2, Each1, sel_l, top, pick_l, number_l, digits_l}
use Rattle.std.proofs.lemmas.Simd.{tops_compared, zip2_splat, zip2_splat_left, pick_l_left, pick_l_whole, splat_is_map}
use Rattle.std.proofs.lemmas.Bool.{cases_lt, cond_below, cond_above}
use Rattle.dted_cell.specs.Words.{words_of, key, low_key}

-- ---- two bytes to a word
swap : List ℕ → List ℕ
swap (a ∷ b ∷ rest) = b ∷ a ∷ swap rest
swap rest = rest

digit_step : (n a b r : ℕ) → a < 256 → b < 256 → digits_l 65536 (suc n) (b + 256 * (a + 256 * r)) ≡ (256 * a + b) ∷ digits_l 65536 n r
digit_step n a b r la lb =
    let low : (b + 256 * (a + 256 * r)) % 65536 ≡ 256 * a + b = omega (arith, la, lb) in
    let high : (b + 256 * (a + 256 * r)) / 65536 ≡ r = omega (arith, la, lb) in
    ap₂ (λ x y. x ∷ digits_l 65536 n y) low high

digits_swapped : (n : ℕ) (xs : List ℕ) → length xs ≡ 2 * n → Each1 (Fits w8) xs → digits_l 65536 n (number_l 256 (swap xs)) ≡ words_of xs
unfolding swap
digits_swapped zero [] long fits = refl
digits_swapped zero (a ∷ rest) long fits = absurd (omega (arith, long))
digits_swapped (suc n) [] long fits = absurd (omega (arith, long))
digits_swapped (suc n) (a ∷ []) long fits = absurd (omega (arith, long))
digits_swapped (suc n) (a ∷ b ∷ rest) long (fa, more) =
    let fb = more.0 in
    let fits = more.1 in
    digit_step n a b (number_l 256 (swap rest)) fa.fits fb.fits ∙ ap (λ ws. (256 * a + b) ∷ ws) (digits_swapped n rest (omega (arith, long)) fits)

pub eight_words : (xs : List ℕ) → length xs ≡ 16 → Each1 (Fits w8) xs → digits_l 65536 8 (number_l 256 (pick_l 0 (xs ++ xs) (1 ∷ 0 ∷ 3 ∷ 2 ∷ 5 ∷ 4 ∷ 7 ∷ 6 ∷ 9 ∷ 8 ∷ 11 ∷ 10 ∷ 13 ∷ 12 ∷ 15 ∷ 14 ∷ []))) ≡ words_of xs
unfolding swap
eight_words xs long fits =
    let front = pick_l_left 0 xs xs 16 (1 ∷ 0 ∷ 3 ∷ 2 ∷ 5 ∷ 4 ∷ 7 ∷ 6 ∷ 9 ∷ 8 ∷ 11 ∷ 10 ∷ 13 ∷ 12 ∷ 15 ∷ 14 ∷ []) long tt in
    let swapped : pick_l 0 xs (1 ∷ 0 ∷ 3 ∷ 2 ∷ 5 ∷ 4 ∷ 7 ∷ 6 ∷ 9 ∷ 8 ∷ 11 ∷ 10 ∷ 13 ∷ 12 ∷ 15 ∷ 14 ∷ []) ≡ swap xs = ap swap (pick_l_whole 0 xs 16 long) in
    ap (λ l. digits_l 65536 8 (number_l 256 l)) (front ∙ swapped) ∙ digits_swapped 8 xs long fits

-- ---- choices by lane
sel_map : {X : Type 0} (p : X → Bool) (f g : X → ℕ) (xs : List X) → sel_l (map p xs) (map f xs) (map g xs) ≡ map (λ x. cond (p x) (f x) (g x)) xs
sel_map p f g [] = refl
sel_map p f g (x ∷ xs) = ap (λ l. cond (p x) (f x) (g x) ∷ l) (sel_map p f g xs)

-- a choice by a comparison with a splat, between lanes that are computed from the same vector
pub select_splat : (t : ℕ → ℕ → Bool) (xs : List ℕ) (n y : ℕ) (f g : ℕ → ℕ) (us vs : List ℕ) → length xs ≡ n → us ≡ map f xs → vs ≡ map g xs → sel_l (map (top 15) (zip2 (λ a b. cond (t a b) 65535 0) xs (replicate n y))) us vs ≡ map (λ x. cond (t x y) (f x) (g x)) xs
select_splat t xs n y f g us vs long is_us is_vs =
    ap (λ ms. sel_l ms us vs) (tops_compared w16 t xs (replicate n y) ∙ zip2_splat t xs n y long)
    ∙ ap₂ (λ a b. sel_l (map (λ x. t x y) xs) a b) is_us is_vs ∙ sel_map (λ x. t x y) f g xs

pub map_within : (f g : ℕ → ℕ) (xs : List ℕ) → Each1 (Fits w16) xs → ((x : ℕ) → x < 65536 → f x ≡ g x) → map f xs ≡ map g xs
map_within f g [] fits same = refl
map_within f g (x ∷ xs) (fit, fits) same = ap₂ (λ a l. a ∷ l) (same x fit.fits) (map_within f g xs fits same)

by_order : (a b x y z : ℕ) → (a < b → x ≡ z) → (b ≤ a → y ≡ z) → cond (ltb a b) x y ≡ z
by_order a b x y z below above = elim (cases_lt a b) [ inl h ↦ sym (cond_below a b x y h) ∙ below h | inr h ↦ sym (cond_above a b x y y h refl) ∙ above h ]

greater_lane : (a b : ℕ) → cond (ltb a b) b a ≡ max a b
greater_lane a b = by_order a b b a (max a b) (λ h. omega (arith, h)) (λ h. omega (arith, h))

lesser_lane : (a b : ℕ) → cond (ltb a b) a b ≡ min a b
lesser_lane a b = by_order a b a b (min a b) (λ h. omega (arith, h)) (λ h. omega (arith, h))

sel_greater : (us vs : List ℕ) → sel_l (zip2 ltb us vs) vs us ≡ zip2 max us vs
sel_greater [] vs = refl
sel_greater (a ∷ us) [] = refl
sel_greater (a ∷ us) (b ∷ vs) = ap₂ (λ x l. x ∷ l) (greater_lane a b) (sel_greater us vs)

sel_lesser : (us vs : List ℕ) → sel_l (zip2 ltb us vs) us vs ≡ zip2 min us vs
sel_lesser [] vs = refl
sel_lesser (a ∷ us) [] = refl
sel_lesser (a ∷ us) (b ∷ vs) = ap₂ (λ x l. x ∷ l) (lesser_lane a b) (sel_lesser us vs)

pub select_greater : (us vs : List ℕ) → sel_l (map (top 15) (zip2 (λ a b. cond (ltb a b) 65535 0) us vs)) vs us ≡ zip2 max us vs
select_greater us vs = ap (λ ms. sel_l ms vs us) (tops_compared w16 ltb us vs) ∙ sel_greater us vs

pub select_lesser : (us vs : List ℕ) → sel_l (map (top 15) (zip2 (λ a b. cond (ltb a b) 65535 0) us vs)) us vs ≡ zip2 min us vs
select_lesser us vs = ap (λ ms. sel_l ms us vs) (tops_compared w16 ltb us vs) ∙ sel_lesser us vs

-- ---- keys
key_lane : (x : ℕ) → x < 65536 → cond (ltb x 32768) ((x + 32768) % 65536) ((0 + (65536 - x)) % 65536) ≡ key x
key_lane x lt =
    by_order x 32768 ((x + 32768) % 65536) ((0 + (65536 - x)) % 65536) (key x)
    (λ h. (let is : (x + 32768) % 65536 ≡ x + 32768 = omega (arith, h) in is) ∙ cond_below x 32768 (x + 32768) (65536 - x) h)
    (λ h. (let is : (0 + (65536 - x)) % 65536 ≡ 65536 - x = omega (arith, h, lt) in is) ∙ cond_above x 32768 (x + 32768) (65536 - x) (65536 - x) h refl)

pub keys_are : (ws : List ℕ) → length ws ≡ 8 → Each1 (Fits w16) ws → sel_l (map (top 15) (zip2 (λ a b. cond (ltb a b) 65535 0) ws (replicate 8 32768))) (zip2 (λ a b. (a + b) % 65536) ws (replicate 8 32768)) (zip2 (λ a b. (a + (65536 - b)) % 65536) (replicate 8 0) ws) ≡ map key ws
keys_are ws long fits =
    select_splat ltb ws 8 32768 (λ x. (x + 32768) % 65536) (λ x. (0 + (65536 - x)) % 65536) (zip2 (λ a b. (a + b) % 65536) ws (replicate 8 32768)) (zip2 (λ a b. (a + (65536 - b)) % 65536) (replicate 8 0) ws) long
    (zip2_splat (λ a b. (a + b) % 65536) ws 8 32768 long) (zip2_splat_left (λ a b. (a + (65536 - b)) % 65536) 0 8 ws long)
    ∙ map_within (λ x. cond (ltb x 32768) ((x + 32768) % 65536) ((0 + (65536 - x)) % 65536)) key ws fits key_lane

pub low_keys_are : (ws keys : List ℕ) → length ws ≡ 8 → keys ≡ map key ws → sel_l (map (top 15) (zip2 (λ a b. cond (eqb a b) 65535 0) ws (replicate 8 65535))) (replicate 8 65535) keys ≡ map low_key ws
low_keys_are ws keys long is = select_splat eqb ws 8 65535 (λ _. 65535) key (replicate 8 65535) keys long (splat_is_map ws 8 65535 long) is
