-- Heights of placed triangles. A height is a fraction l/m with m above 0.
use Rattle.std.proofs.Common.{◌≡◌, refl, ap, sym, arith, ◌∙◌, List, [], ◌∷◌, ◌++◌, inl, inr}
use Rattle.std.specs.Prelude.{ℤ, pos, ◌+ℤ◌, ◌-ℤ◌, ◌*ℤ◌, ◌<ℤ◌, ◌⊎◌}
use Rattle.std.specs.List.{AllByRecursion}
use Rattle.std.proofs.lemmas.Int.{ints}
use Rattle.common_laws.proofs.Lists.{all_append, all_weaker}
use Rattle.polynomial.proofs.Expressions.{var, mul}
use Rattle.polynomial.proofs.NormalForm.{by_ring}
use Rattle.polynomial.proofs.Signs.{factor_nought}
use Rattle.mesh_plane.specs.Plane.{Point}
use Rattle.mesh_plane.specs.Triangles.{Triple}
use Rattle.mesh_plane.proofs.Turns.{turn}
use Rattle.mesh_plane.proofs.Sweeps.{difference}
use Rattle.mesh_plane.proofs.Tilings.{area, Within, Held}

-- a factor above 0 is cancelled
pub cancelled : (w a b : ℤ) → pos 0 <ℤ w → w *ℤ a ≡ w *ℤ b → a ≡ b
cancelled w a b h e =
    let n : a -ℤ b ≡ pos 0 =
    factor_nought w (a -ℤ b) h (omega (arith, ints, e, difference w a b)) in omega (arith, ints, n)

module _ {A : Type 0} (at : A → Point) (z : A → ℤ) where
  -- the height of the triangle's plane at p, times the doubled area
  abbrev pub lift : Triple A → Point → ℤ
  lift t p =
      (z t.a *ℤ turn (at t.b) (at t.c) p +ℤ z t.b *ℤ turn (at t.c) (at t.a) p) +ℤ z t.c *ℤ turn (at t.a)
      (at t.b) p

  module _ (p : Point) where
    -- both planes have one height at the point
    abbrev pub Agree : Triple A → Triple A → Type 0
    Agree t u = lift t p *ℤ area at u ≡ lift u p *ℤ area at t

    -- the plane has the height l/m at the point
    abbrev pub AtLevel : ℤ → ℤ → Triple A → Type 0
    AtLevel m l t = lift t p *ℤ m ≡ l *ℤ area at t

    -- of the triangles that hold the point
    abbrev pub Each : (Triple A → Type 0) → List (Triple A) → Type 0
    Each X ts = AllByRecursion (λ u. Within at u p → X u) ts

    -- all triangles that hold the point give it one height
    abbrev pub OneLevel : List (Triple A) → Type 0
    OneLevel [] = Unit {0}
    OneLevel (t ∷ ts) = (Within at t p → Each (Agree t) ts) × OneLevel ts

    -- each triangle of ts that holds the point agrees with each of us that does
    abbrev pub Cross : List (Triple A) → List (Triple A) → Type 0
    Cross ts us = Each (λ t. Each (Agree t) us) ts

    -- ---- to show something of those that hold the point, one may suppose that some triangle of the list
    -- does
    pub all_when : (X : Triple A → Type 0) (ts : List (Triple A)) → (Held at p ts → Each X ts) → Each X ts
    all_when X [] k = tt
    all_when X (t ∷ ts) k = (λ h. (k (inl h)).0 h, all_when X ts (λ h. (k (inr h)).1))

    all_later : (H : Type 0) (X : Triple A → Type 0) (ts : List (Triple A)) → (H → AllByRecursion X ts)
        → AllByRecursion (λ t. H → X t) ts
    all_later H X [] f = tt
    all_later H X (t ∷ ts) f = (λ h. (f h).0, all_later H X ts (λ h. (f h).1))

    pub cross_when : (ts us : List (Triple A)) → (Held at p ts → Held at p us → Cross ts us) → Cross ts us
    cross_when ts us f = all_when (λ t. Each (Agree t) us) ts (λ held.
        all_weaker (λ t. Held at p us → Within at t p → Each (Agree t) us) (λ t. Within at t p
        → Each (Agree t) us)
        (λ t g i. all_when (Agree t) us (λ h. g h i)) ts
        (all_later (Held at p us) (λ t. Within at t p → Each (Agree t) us) ts (λ h. f held h)))

    -- ---- lists
    pub one_append : (ts us : List (Triple A)) → OneLevel ts → OneLevel us → Cross ts us → OneLevel (ts ++ us)
    one_append [] us h k x = k
    one_append (t ∷ ts) us h k x =
        (λ i. all_append (λ u. Within at u p → Agree t u) ts us (h.0 i) (x.0 i), one_append ts us h.1 k x.1)

    pub cross_right : (ts us vs : List (Triple A)) → Cross ts us → Cross ts vs → Cross ts (us ++ vs)
    cross_right [] us vs x y = tt
    cross_right (t ∷ ts) us vs x y =
        (λ i. all_append (λ u. Within at u p → Agree t u) us vs (x.0 i) (y.0 i), cross_right ts us vs x.1 y.1)

    pub cross_left : (ts us vs : List (Triple A)) → Cross ts vs → Cross us vs → Cross (ts ++ us) vs
    cross_left ts us vs x y = all_append (λ t. Within at t p → Each (Agree t) vs) ts us x y

    cross_front : (t : Triple A) (ts us : List (Triple A)) → (Within at t p → Each (Agree t) us) → Cross us ts
        → Cross us (t ∷ ts)
    cross_front t ts [] f c = tt
    cross_front t ts (u ∷ us) f c =
        (λ i. (λ j. sym ((f j).0 i), c.0 i), cross_front t ts us (λ j. (f j).1) c.1)

    cross_none : (us : List (Triple A)) → Cross us []
    cross_none [] = tt
    cross_none (u ∷ us) = (λ i. tt, cross_none us)

    pub cross_sym : (ts us : List (Triple A)) → Cross ts us → Cross us ts
    cross_sym [] us c = cross_none us
    cross_sym (t ∷ ts) us c = cross_front t ts us c.0 (cross_sym ts us c.1)

    -- ---- levels
    pub levels_agree : (m l : ℤ) (t u : Triple A) → pos 0 <ℤ m → AtLevel m l t → AtLevel m l u → Agree t u
    levels_agree m l t u hm h k =
        cancelled m (lift t p *ℤ area at u) (lift u p *ℤ area at t) hm
        (by_ring (mul (var 0) (mul (var 1) (var 2))) (mul (mul (var 1) (var 0)) (var 2))
        (m ∷ lift t p ∷ area at u ∷ []) refl
        ∙ ap (λ i. i *ℤ area at u) h
        ∙ by_ring (mul (mul (var 0) (var 1)) (var 2)) (mul (mul (var 0) (var 2)) (var 1))
        (l ∷ area at t ∷ area at u ∷ []) refl
        ∙ ap (λ i. i *ℤ area at t) (sym k)
        ∙ by_ring (mul (mul (var 1) (var 0)) (var 2)) (mul (var 0) (mul (var 1) (var 2)))
        (m ∷ lift u p ∷ area at t ∷ []) refl)

    pub agreed : (m l : ℤ) (t u : Triple A) → pos 0 <ℤ area at t → AtLevel m l t → Agree t u → AtLevel m l u
    agreed m l t u ht h e =
        cancelled (area at t) (lift u p *ℤ m) (l *ℤ area at u) ht
        (by_ring (mul (var 0) (mul (var 1) (var 2))) (mul (mul (var 1) (var 0)) (var 2))
        (area at t ∷ lift u p ∷ m ∷ []) refl
        ∙ ap (λ i. i *ℤ m) (sym e)
        ∙ by_ring (mul (mul (var 0) (var 1)) (var 2)) (mul (mul (var 0) (var 2)) (var 1))
        (lift t p ∷ area at u ∷ m ∷ []) refl
        ∙ ap (λ i. i *ℤ area at u) h
        ∙ by_ring (mul (mul (var 0) (var 1)) (var 2)) (mul (var 1) (mul (var 0) (var 2)))
        (l ∷ area at t ∷ area at u ∷ []) refl)

    -- the triangles that hold the point have the height l/m there
    abbrev pub Has : ℤ → ℤ → List (Triple A) → Type 0
    Has m l ts = Each (AtLevel m l) ts

    pub cross_levels : (m l : ℤ) (ts us : List (Triple A)) → pos 0 <ℤ m → Has m l ts → Has m l us
        → Cross ts us
    cross_levels m l ts us hm h k =
        all_weaker (λ t. Within at t p → AtLevel m l t) (λ t. Within at t p → Each (Agree t) us)
        (λ t f i. all_weaker (λ u. Within at u p → AtLevel m l u) (λ u. Within at u p → Agree t u)
        (λ u g j. levels_agree m l t u hm (f i) (g j)) us k) ts h

    -- some triangle holds the point and has the height l/m there
    abbrev pub Shown : ℤ → ℤ → List (Triple A) → Type 0
    Shown m l [] = ⊥
    Shown m l (t ∷ ts) = ((pos 0 <ℤ area at t) × Within at t p × AtLevel m l t) ⊎ Shown m l ts

    head_level : (m l : ℤ) (t : Triple A) (ts : List (Triple A)) → Each (Agree t) ts → Shown m l ts
        → AtLevel m l t
    head_level m l t [] a h = elim h [ ]
    head_level m l t (u ∷ ts) a (inl h) = agreed m l u t h.0 h.2 (sym (a.0 h.1))
    head_level m l t (u ∷ ts) a (inr h) = head_level m l t ts a.1 h

    -- where all agree and one is shown, all have the height
    pub spread : (m l : ℤ) (ts : List (Triple A)) → OneLevel ts → Shown m l ts → Has m l ts
    spread m l [] o h = elim h [ ]
    spread m l (t ∷ ts) o (inl h) = (
      (λ i. h.2),
      all_weaker (λ u. Within at u p → Agree t u) (λ u. Within at u p → AtLevel m l u)
          (λ u f i. agreed m l t u h.0 h.2 (f i)) ts (o.0 h.1),
    )
    spread m l (t ∷ ts) o (inr h) = ((λ i. head_level m l t ts (o.0 i) h), spread m l ts o.1 h)

    -- one that holds the point shows a height
    pub some_shown : (us : List (Triple A)) → AllByRecursion (λ t. pos 0 <ℤ area at t) us → Held at p us
        → (m : ℤ) × (l : ℤ) × (pos 0 <ℤ m) × Shown m l us
    some_shown [] c h = elim h [ ]
    some_shown (u ∷ us) c (inl h) = (area at u, lift u p, c.0, inl (c.0, h, refl))
    some_shown (u ∷ us) c (inr h) = let r = some_shown us c.1 h in (r.0, r.1, r.2, inr r.3)

    has_left : (m l : ℤ) (ts us : List (Triple A)) → Cross ts us → Shown m l us → Has m l ts
    has_left m l ts us x s =
        all_weaker (λ t. Within at t p → Each (Agree t) us) (λ t. Within at t p → AtLevel m l t)
        (λ t f i. head_level m l t us (f i) s) ts x

    has_right : (m l : ℤ) (us vs : List (Triple A)) → Cross us vs → Shown m l us → Has m l vs
    has_right m l [] vs x s = elim s [ ]
    has_right m l (u ∷ us) vs x (inl s) =
        all_weaker (λ v. Within at v p → Agree u v) (λ v. Within at v p → AtLevel m l v)
        (λ v f i. agreed m l u v s.0 s.2 (f i)) vs (x.0 s.1)
    has_right m l (u ∷ us) vs x (inr s) = has_right m l us vs x.1 s

    -- two lists that agree with a third, which holds the point
    pub cross_through : (ts us vs : List (Triple A)) → AllByRecursion (λ t. pos 0 <ℤ area at t) us
        → Held at p us
        → Cross ts us → Cross us vs → Cross ts vs
    cross_through ts us vs c h x y =
        let r = some_shown us c h in
        cross_levels r.0 r.1 ts vs r.2 (has_left r.0 r.1 ts us x r.3) (has_right r.0 r.1 us vs y r.3)

    -- four lists, of which each two agree
    pub four_levels : (a b c d : List (Triple A)) → OneLevel a → OneLevel b → OneLevel c → OneLevel d
        → Cross a b → Cross a c → Cross a d → Cross b c → Cross b d → Cross c d
        → OneLevel (a ++ (b ++ (c ++ d)))
    four_levels a b c d oa ob oc od ab ac ad bc bd cd =
        one_append a (b ++ (c ++ d)) oa
        (one_append b (c ++ d) ob (one_append c d oc od cd) (cross_right b c d bc bd))
        (cross_right a b (c ++ d) ab (cross_right a c d ac ad))
