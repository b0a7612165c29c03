-- The value at a place by the grid lines through it.
use Rattle.std.proofs.Common.{◌≡◌, ℕ, ◌+◌, ◌-◌, ◌*◌, ◌/◌, ◌%◌, ◌<◌, ◌≤◌, ◌==◌, ℤ, true, false, List, [], ◌∷◌, length, get_or, set, Some, ◌≢◌, ◌⊎◌, inl, inr, refl, sym, ap, ◌∙◌, subst, arith, get_or-set_other, get_or-set_same, length-set}
use Rattle.std.proofs.lemmas.Bool.{lt-ltb, eqb-true, cases_order}
use Rattle.std.proofs.lemmas.Nat.{div-add-mod'}
use Rattle.std.proofs.Math.Nat.{add-mod_left, mod-eq_of_lt, mod-lt, mul-le-mul_right, div-lt_iff_lt-mul, lt_of_mul-lt-mul_right}
use Rattle.terrain_base.specs.declared.square.Square.{Square}
use Rattle.terrain_base.specs.declared.level.CellLevel.{CellLevel}
use Rattle.terrain_base.specs.declared.post.Post.{Post}
use Rattle.terrain_base.specs.declared.post.Post.TheVariants.{Void, Metres}
use Rattle.terrain_base.specs.Level.{rows_of, columns_of}
use Rattle.terrain_base.proofs.SquareTexts.{same_square}
use Rattle.tms_tree.specs.declared.place.Place.{Place}
use Rattle.std.specs.Prelude.{Contains}
use Rattle.tms_tree.specs.Degrees.{RectangleHolds, square_rectangle}
use Rattle.tms_tree.specs.Place.{IsPlace, point_of}
use Rattle.cell_mosaic.proofs.Holders.{are_holders}
use Rattle.dted_cell.specs.Header.{square_of}
use Rattle.cell_mosaic.specs.declared.quad.Quad.{Quad}
use Rattle.cell_mosaic.specs.Cells.{Cells}
use Rattle.cell_mosaic.specs.Blend.{blend_of}
use Rattle.cell_mosaic.specs.Candidates.{candidates_of}
use Rattle.cell_mosaic.specs.Value.{east_of, north_of, quad_round, value_in_cell, value_at}
use Rattle.cell_mosaic.proofs.Values.{value_by}
use Rattle.resample.specs.declared.line.Line.{Line}
use Rattle.resample.specs.Height.{height_or, first_height, height_at}
use Rattle.resample.specs.Line.{IsLine, LiesIn, AreLines, no_line}
use Rattle.resample.proofs.Firsts.{height_by_list}
use Rattle.resample.proofs.Turns.{by_degrees, listed}

-- ---- posts

-- a post before the last
pub step_below : (units d degree posts : ℕ) (line : Line) → 0 < d → LiesIn units d degree posts line → line.post + 1 < posts
step_below units d degree posts line p l =
    let is = l.line_is in
    let small = is.small in
    let many = is.many in
    let same = l.posts_are in
    let n = line.posts - 1 in
    let up : (line.rest + 1) * n ≤ d * n = mul-le-mul_right n (omega arith) in
    let less : line.rest * n < n * d = omega arith in
    let below : line.rest * n / d < n = (div-lt_iff_lt-mul {k = d} {x = line.rest * n} {y = n} p).1 less in
    omega (arith, is.post, below)

-- ---- where the place lies in the square

east_is : (n d lon : ℕ) → 0 < d → lon < 360 → lon ≡ n / d → (n + (360 - lon) * d) % (360 * d) ≡ n % d
east_is n d lon p h is =
    let e = div-add-mod' n d in
    let k = 360 - lon in
    let whole : lon + k ≡ 360 = omega arith in
    let times : (lon + k) * d ≡ 360 * d = ap (λ (c : ℕ). c * d) whole in
    let times' : lon * d ≡ n / d * d = ap (λ (c : ℕ). c * d) is in
    let same : n + k * d ≡ 360 * d + n % d = omega (arith, e, times, times') in
    let small = mod-lt n p in
    ap (λ (c : ℕ). c % (360 * d)) same ∙ add-mod_left (360 * d) (n % d) ∙ mod-eq_of_lt (omega (arith, small))

north_is : (n d lat : ℕ) → lat ≡ n / d → n - lat * d ≡ n % d
north_is n d lat is =
    let e = div-add-mod' n d in
    let times : lat * d ≡ n / d * d = ap (λ (c : ℕ). c * d) is in
    omega (arith, e, times)

pub value_by_lines : (posts : ℕ → ℕ → Post) (square : Square) (level : CellLevel) (place : Place) (east north : Line) (quad : Quad) (post : Post) → IsPlace place
    → LiesIn (180 * place.p) place.d square.lon (columns_of square level) east → LiesIn (180 * place.q) place.d square.lat (rows_of level) north
    → quad ≡ quad_round posts east.post north.post (east.beyond == 0) (north.beyond == 0) → post ≡ blend_of quad east.beyond place.d north.beyond place.d → post ≡ value_in_cell posts square level place
value_by_lines posts square level place east north quad post fit le ln q b =
    let e = le.line_is in
    let n = ln.line_is in
    let here : east.rest ≡ east_of square place = e.rest ∙ sym (east_is (180 * place.p) place.d square.lon fit.positive square.lon_in_range (le.degree_is ∙ e.degrees)) in
    let there : north.rest ≡ north_of square place = n.rest ∙ sym (north_is (180 * place.q) place.d square.lat (ln.degree_is ∙ n.degrees)) in
    value_by posts square level place (east.rest * (east.posts - 1)) (north.rest * (north.posts - 1)) east.post east.beyond north.post north.beyond quad post
    (λ i. here i * (le.posts_are i - 1)) (λ i. there i * (ln.posts_are i - 1)) e.post e.beyond n.post n.beyond q b

-- ---- the one candidate

not_zero : (n : ℕ) → 0 < n → (n == 0) ≡ false
not_zero n h = elim (n == 0) as (λ b. n == 0 ≡ b → b ≡ false) [
  | true ↦ λ e. absurd (let z = eqb-true n 0 e in omega arith)
  | false ↦ λ e. refl
] refl

one_listed : (lon lat : ℕ) (square : Square) → square.lon ≡ lon → square.lat ≡ lat → listed lon lat false false ≡ square ∷ []
unfolding square_of
one_listed lon lat square e f =
    let t = lt-ltb lat 180 (omega (arith, f, square.lat_in_range)) in
    rw t (ap (λ s. s ∷ []) (same_square (square_of lon lat) square (omega (arith, f, square.lat_in_range)) (omega (arith, e, square.lon_in_range))))

pub one_candidate : (place : Place) (square : Square) → 0 < 180 * place.p % place.d → 0 < 180 * place.q % place.d → square.lon ≡ 180 * place.p / place.d → square.lat ≡ 180 * place.q / place.d → candidates_of place ≡ square ∷ []
one_candidate place square h k e f =
    let m = not_zero _ h in
    let l = not_zero _ k in
    by_degrees place ∙ (λ i. listed (180 * place.p / place.d) (180 * place.q / place.d) (m i) (l i)) ∙ one_listed _ _ square e f

-- a place on two lines that are none of whole degrees has the square of their degrees alone
pub one_on_lines : (place : Place) (square : Square) (east north : Line) → IsLine (180 * place.p) place.d east × (0 < east.rest) × (square.lon ≡ east.degrees) → IsLine (180 * place.q) place.d north × (0 < north.rest) × (square.lat ≡ north.degrees) → candidates_of place ≡ square ∷ []
one_on_lines place square east north e n =
    one_candidate place square (subst (λ (k : ℕ). 0 < k) e.0.rest e.1) (subst (λ (k : ℕ). 0 < k) n.0.rest n.1) (e.2 ∙ e.0.degrees) (n.2 ∙ n.0.degrees)

-- which holds it
pub one_holds : (place : Place) (square : Square) → IsPlace place → candidates_of place ≡ square ∷ [] → RectangleHolds (square_rectangle square) (point_of place)
one_holds place square fit one = (are_holders place square fit).0 (subst (λ l. Contains l square) (sym one) (0, omega arith, refl))

single : (fill : ℤ) (post : Post) → height_or fill (Some post) ≡ first_height fill (post ∷ [])
single fill Void = refl
single fill (Metres metres) = refl

pub height_of_one : (fill : ℤ) (cells : Cells) (place : Place) (square : Square) (post : Post) (metres : ℤ) → candidates_of place ≡ square ∷ [] → post ≡ value_at cells square place → metres ≡ height_or fill (Some post) → metres ≡ height_at fill cells place
height_of_one fill cells place square post metres one is height =
    height ∙ single fill post ∙ ap (λ p. first_height fill (p ∷ [])) is ∙ height_by_list fill cells place (square ∷ []) (sym one)

-- ---- lists of lines

pub each_set : (P : ℕ → Line → Type 0) (lines : List Line) (i m : ℕ) (line : Line) → i < length lines → P i line → ((n : ℕ) → n < m → n ≢ i → P n (get_or lines n no_line)) → (n : ℕ) → n < m → P n (get_or (set lines i line) n no_line)
each_set P lines i m line h is others n below = elim (cases_order n i) [
  | inl e ↦ subst (λ k. P k (get_or (set lines i line) k no_line)) (sym e) (subst (P i) (sym (get_or-set_same lines i line no_line h)) is)
  | inr s ↦ subst (P n) (sym (get_or-set_other lines i n line no_line (apart s))) (others n below (apart s))
]
  where
    apart : (n < i) ⊎ (i < n) → n ≢ i
    apart (inl l) e = omega arith
    apart (inr m) e = omega arith

-- ---- lines and runs

-- lines that are each as they were, or another of the same place, are lines of the same places
pub turned_lines : (units : ℕ → ℕ) (d : ℕ) (lines : List Line) (i : ℕ) (line : Line) → i < 67 → ((n : ℕ) → IsLine n d (get_or lines i no_line) → IsLine n d line) → AreLines units d lines → AreLines units d (set lines i line)
turned_lines units d lines i line below same are = record {
  full = length-set lines i line ∙ are.full;
  each = each_set (λ (k : ℕ) l. IsLine (units k) d l) lines i 67 line (let full = are.full in omega (arith, full)) (same (units i) (are.each i below)) (λ n b off. are.each n b);
}

-- a line that lies on no whole degree lies in a degree before the last
pub before_last : (n d degrees most : ℕ) → 0 < d → n ≤ most * d → 0 < n % d → n / d ≡ degrees → degrees < most
before_last n d degrees most p within some is =
    let parts = div-add-mod' n d in
    subst (λ (k : ℕ). k < most) is (lt_of_mul-lt-mul_right d (omega (arith, parts, within, some)))
