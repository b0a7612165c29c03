-- The boxes fix their sphere.
use Rattle.std.proofs.Common.{◌≡◌, refl, sym, subst, arith, List}
use Rattle.std.proofs.lemmas.Int.{ints}
use Rattle.std.proofs.lemmas.List.Elements.{All-contains, All-weaker}
use Rattle.std.specs.Prelude.{ℤ, ◌≤ℤ◌, ◌*ℤ◌}
use Rattle.ecef_boxes.specs.declared.ecef_box.EcefBox.{EcefBox}
use Rattle.bound_spheres.specs.declared.sphere.Sphere.{Sphere}
use Rattle.bound_spheres.specs.Hull.{IsLeast, IsGreatest}
use Rattle.bound_spheres.specs.Sphere.{IsMiddle, IsReached, IsSphere, distance_squared}

one_least : (read : EcefBox → ℤ) (boxes : List EcefBox) (m n : ℤ) → IsLeast read boxes m → IsLeast read boxes n → m ≡ n
one_least read boxes m n p q =
    let low : m ≤ℤ read q.box = All-contains (λ b. m ≤ℤ read b) boxes q.box p.least q.among in
    let high : n ≤ℤ read p.box = All-contains (λ b. n ≤ℤ read b) boxes p.box q.least p.among in
    omega (arith, ints, low, high, p.reached, q.reached)

one_greatest : (read : EcefBox → ℤ) (boxes : List EcefBox) (m n : ℤ) → IsGreatest read boxes m → IsGreatest read boxes n → m ≡ n
one_greatest read boxes m n p q =
    let low : read q.box ≤ℤ m = All-contains (λ b. read b ≤ℤ m) boxes q.box p.greatest q.among in
    let high : read p.box ≤ℤ n = All-contains (λ b. read b ≤ℤ n) boxes p.box q.greatest p.among in
    omega (arith, ints, low, high, p.reached, q.reached)

one_middle : (low high : EcefBox → ℤ) (boxes : List EcefBox) (m n : ℤ) → IsMiddle low high boxes m → IsMiddle low high boxes n → m ≡ n
one_middle low high boxes m n p q =
    let lows : p.lo ≡ q.lo = one_least low boxes p.lo q.lo p.least q.least in
    let highs : p.hi ≡ q.hi = one_greatest high boxes p.hi q.hi p.greatest q.greatest in
    rw (p.middle, q.middle, lows, highs) refl

same_sphere : (x y z r : ℤ) (a : Sphere) → a.x ≡ x → a.y ≡ y → a.z ≡ z → a.radius ≡ r
    → ◌≡◌ {A = Sphere} a (record { x = x; y = y; z = z; radius = r })
same_sphere x y z r a p q s t = rw (sym p, sym q, sym s, sym t) refl

same_distance : (a b : Sphere) → a.x ≡ b.x → a.y ≡ b.y → a.z ≡ b.z → (x y z : ℤ)
    → distance_squared b x y z ≡ distance_squared a x y z
same_distance a b p q s x y z = rw (p, q, s) refl

same_reach : (a b : Sphere) → a.x ≡ b.x → a.y ≡ b.y → a.z ≡ b.z → (r : ℤ) (box : EcefBox)
    → IsReached b r box → IsReached a r box
same_reach a b p q s r box h = record { corner = λ x y z is. subst (λ (n : ℤ). n ≤ℤ (r *ℤ r)) (same_distance a b p q s x y z) (h.corner x y z is) }

pub one_sphere : (boxes : List EcefBox) (a b : Sphere) → IsSphere boxes a → IsSphere boxes b → a ≡ b
one_sphere boxes a b p q =
    let on_x : a.x ≡ b.x = one_middle (λ box. box.x_lo) (λ box. box.x_hi) boxes a.x b.x p.x q.x in
    let on_y : a.y ≡ b.y = one_middle (λ box. box.y_lo) (λ box. box.y_hi) boxes a.y b.y p.y q.y in
    let on_z : a.z ≡ b.z = one_middle (λ box. box.z_lo) (λ box. box.z_hi) boxes a.z b.z p.z q.z in
    let low : a.radius ≤ℤ b.radius = p.least b.radius q.positive
    (All-weaker (IsReached b b.radius) (IsReached a b.radius) (λ box h. same_reach a b on_x on_y on_z b.radius box h) boxes q.reaches) in
    let high : b.radius ≤ℤ a.radius = q.least a.radius p.positive
    (All-weaker (IsReached a a.radius) (IsReached b a.radius) (λ box h. same_reach b a (sym on_x) (sym on_y) (sym on_z) a.radius box h) boxes p.reaches) in
    same_sphere b.x b.y b.z b.radius a on_x on_y on_z (omega (arith, ints, low, high))
