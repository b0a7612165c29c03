-- Numbers in bytes.
use Rattle.std.proofs.Common.{◌≡◌, ℕ, ◌+◌, ◌*◌, ◌/◌, ◌%◌, ◌^◌, ◌<◌, ◌≤◌, List, [], ◌∷◌, ◌++◌, length, drop, get_or, refl, sym, ap, ◌∙◌, arith}
use Rattle.std.proofs.lemmas.List.{get_or-drop, drop-drop, length-drop}
use Rattle.byteorder.specs.Endian.{little_bytes, little_number}
use Rattle.byteorder.specs.Numbers.{little_from-lt, little_number-reads_back}
use Rattle.mesh_codec.specs.Number.{number_at, AreBytes}

pub number_small : (size : ℕ) (bytes : List ℕ) (at : ℕ) → AreBytes bytes → number_at size bytes at < 256 ^ size
unfolding number_at
number_small size bytes at h = little_from-lt 0 size (drop at bytes) (λ k. rw get_or-drop (h (at + k)))

pub number_here : (size : ℕ) (bytes : List ℕ) (at n : ℕ) (rest : List ℕ) → drop at bytes ≡ little_bytes size n ++ rest → n < 256 ^ size → number_at size bytes at ≡ n
unfolding number_at
number_here size bytes at n rest e h = ap (little_number size) e ∙ little_number-reads_back size n rest h

-- four bytes are those of their number
four_of : (a b c d : ℕ) → a < 256 → b < 256 → c < 256 → d < 256 → little_bytes 4 (a + 256 * (b + 256 * (c + 256 * (d + 256 * 0)))) ≡ a ∷ b ∷ c ∷ d ∷ []
four_of a b c d p q r s =
    let n = a + 256 * (b + 256 * (c + 256 * (d + 256 * 0))) in
    let w : n % 256 ≡ a = omega arith in
    let x : n / 256 % 256 ≡ b = omega arith in
    let y : n / 65536 % 256 ≡ c = omega arith in
    let z : n / 16777216 % 256 ≡ d = omega arith in
    rw (w, x, y, z) refl

four_parts : (l : List ℕ) → 4 ≤ length l → ((i : ℕ) → get_or l i 0 < 256) → l ≡ little_bytes 4 (little_number 4 l) ++ drop 4 l
four_parts [] h b = absurd (omega arith)
four_parts (w ∷ []) h b = absurd (omega arith)
four_parts (w ∷ x ∷ []) h b = absurd (omega arith)
four_parts (w ∷ x ∷ y ∷ []) h b = absurd (omega arith)
four_parts (w ∷ x ∷ y ∷ z ∷ rest) h b = sym (ap (λ l. l ++ rest) (four_of w x y z (b 0) (b 1) (b 2) (b 3)))

pub four_here : (bytes : List ℕ) (at : ℕ) → AreBytes bytes → at + 4 ≤ length bytes → drop at bytes ≡ little_bytes 4 (number_at 4 bytes at) ++ drop (at + 4) bytes
unfolding number_at
four_here bytes at h l = four_parts (drop at bytes) (simp length-drop (omega arith)) (λ i. rw get_or-drop (h (at + i))) ∙ ap (λ r. little_bytes 4 (little_number 4 (drop at bytes)) ++ r) (drop-drop 4 at bytes)
