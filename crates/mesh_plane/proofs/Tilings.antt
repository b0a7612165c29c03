-- Triangles that tile a region of the plane, over corners of any kind that are placed by a function.
use Rattle.std.proofs.Common.{List, [], ◌∷◌, ◌++◌, inl, inr, ⊎_elim}
use Rattle.std.specs.Prelude.{ℤ, pos, ◌≤ℤ◌, ◌<ℤ◌, ◌⊎◌}
use Rattle.std.specs.List.{AllByRecursion}
use Rattle.common_laws.proofs.Lists.{all_append}
use Rattle.mesh_plane.specs.Plane.{Point}
use Rattle.mesh_plane.specs.Triangles.{Triple}
use Rattle.mesh_plane.proofs.Turns.{turn}

module _ {A : Type 0} (at : A → Point) where
  -- the doubled area
  abbrev pub area : Triple A → ℤ
  area t = turn (at t.a) (at t.b) (at t.c)

  abbrev pub IsCcw : Triple A → Type 0
  IsCcw t = pos 0 <ℤ area t

  -- the point lies in the closed triangle
  pub record Within (t : Triple A) (p : Point) : Type 0 where
    pub ab : pos 0 ≤ℤ turn (at t.a) (at t.b) p
    pub bc : pos 0 ≤ℤ turn (at t.b) (at t.c) p
    pub ca : pos 0 ≤ℤ turn (at t.c) (at t.a) p

  -- the point lies strictly inside the triangle
  pub record Inside (t : Triple A) (p : Point) : Type 0 where
    pub ab : pos 0 <ℤ turn (at t.a) (at t.b) p
    pub bc : pos 0 <ℤ turn (at t.b) (at t.c) p
    pub ca : pos 0 <ℤ turn (at t.c) (at t.a) p

  -- some triangle holds the point
  abbrev pub Held : Point → List (Triple A) → Type 0
  Held p [] = ⊥
  Held p (t ∷ ts) = Within t p ⊎ Held p ts

  abbrev pub HeldInside : Point → List (Triple A) → Type 0
  HeldInside p [] = ⊥
  HeldInside p (t ∷ ts) = Inside t p ⊎ HeldInside p ts

  -- no two triangles at different places of the list hold the point strictly
  abbrev pub NoneTwice : Point → List (Triple A) → Type 0
  NoneTwice p [] = Unit {0}
  NoneTwice p (t ∷ ts) = (Inside t p → ¬ HeldInside p ts) × NoneTwice p ts

  -- the triangles hold the points of the region, no others, and none strictly twice; what they hold strictly
  -- is
  -- in the region's inside
  pub record Tiling (region inside : Point → Type 0) (ts : List (Triple A)) : Type 0 where
    pub ccw : AllByRecursion IsCcw ts
    pub within : (p : Point) → Held p ts → region p
    pub full : (p : Point) → region p → Held p ts
    pub inner : (p : Point) → HeldInside p ts → inside p
    pub once : (p : Point) → NoneTwice p ts

  -- ---- lists
  pub held_left : (p : Point) (ts us : List (Triple A)) → Held p ts → Held p (ts ++ us)
  held_left p [] us h = elim h [ ]
  held_left p (t ∷ ts) us (inl h) = inl h
  held_left p (t ∷ ts) us (inr h) = inr (held_left p ts us h)

  pub held_right : (p : Point) (ts us : List (Triple A)) → Held p us → Held p (ts ++ us)
  held_right p [] us h = h
  held_right p (t ∷ ts) us h = inr (held_right p ts us h)

  pub held_split : (p : Point) (ts us : List (Triple A)) → Held p (ts ++ us) → Held p ts ⊎ Held p us
  held_split p [] us h = inr h
  held_split p (t ∷ ts) us (inl h) = inl (inl h)
  held_split p (t ∷ ts) us (inr h) = ⊎_elim (λ x. inl (inr x)) (λ y. inr y) (held_split p ts us h)

  pub inside_split : (p : Point) (ts us : List (Triple A))
      → HeldInside p (ts ++ us) → HeldInside p ts ⊎ HeldInside p us
  inside_split p [] us h = inr h
  inside_split p (t ∷ ts) us (inl h) = inl (inl h)
  inside_split p (t ∷ ts) us (inr h) = ⊎_elim (λ x. inl (inr x)) (λ y. inr y) (inside_split p ts us h)

  pub none_twice : (p : Point) (ts us : List (Triple A)) → NoneTwice p ts → NoneTwice p us
      → (HeldInside p ts → HeldInside p us → ⊥) → NoneTwice p (ts ++ us)
  none_twice p [] us h k apart = k
  none_twice p (t ∷ ts) us h k apart = (
    λ s w. ⊎_elim (λ x. h.0 s x) (λ y. apart (inl s) y) (inside_split p ts us w),
    none_twice p ts us h.1 k (λ x y. apart (inr x) y),
  )

  -- ---- tilings of parts make a tiling of the whole
  -- two regions whose insides are apart
  pub tiling_append : (R S R₁ S₁ R₂ S₂ : Point → Type 0) (ts us : List (Triple A)) → Tiling R₁ S₁ ts
      → Tiling R₂ S₂ us
      → ((p : Point) → R p → R₁ p ⊎ R₂ p) → ((p : Point) → R₁ p → R p) → ((p : Point) → R₂ p → R p)
      → ((p : Point) → S₁ p → S p) → ((p : Point) → S₂ p → S p) → ((p : Point) → S₁ p → S₂ p → ⊥)
      → Tiling R S (ts ++ us)
  tiling_append R S R₁ S₁ R₂ S₂ ts us h k cut in₁ in₂ on₁ on₂ apart = record {
    ccw = all_append IsCcw ts us h.ccw k.ccw;
    within = λ p w. ⊎_elim (λ x. in₁ p (h.within p x)) (λ y. in₂ p (k.within p y)) (held_split p ts us w);
    full = λ p r. ⊎_elim (λ x. held_left p ts us (h.full p x)) (λ y. held_right p ts us (k.full p y))
        (cut p r);
    inner = λ p w. ⊎_elim (λ x. on₁ p (h.inner p x)) (λ y. on₂ p (k.inner p y)) (inside_split p ts us w);
    once = λ p. none_twice p ts us (h.once p) (k.once p) (λ x y. apart p (h.inner p x) (k.inner p y));
  }

  -- both regions together
  pub tiling_union : (R₁ S₁ R₂ S₂ : Point → Type 0) (ts us : List (Triple A)) → Tiling R₁ S₁ ts
      → Tiling R₂ S₂ us
      → ((p : Point) → S₁ p → S₂ p → ⊥) → Tiling (λ p. R₁ p ⊎ R₂ p) (λ p. S₁ p ⊎ S₂ p) (ts ++ us)
  tiling_union R₁ S₁ R₂ S₂ ts us h k apart =
      tiling_append (λ p. R₁ p ⊎ R₂ p) (λ p. S₁ p ⊎ S₂ p) R₁ S₁ R₂ S₂ ts us h k
      (λ p r. r) (λ p r. inl r) (λ p r. inr r) (λ p r. inl r) (λ p r. inr r) apart

  -- another word for the same region
  pub tiling_same : (R S R' S' : Point → Type 0) (ts : List (Triple A)) → ((p : Point) → R p → R' p)
      → ((p : Point) → R' p → R p) → ((p : Point) → S p → S' p) → Tiling R S ts → Tiling R' S' ts
  tiling_same R S R' S' ts f g s h = record {
    ccw = h.ccw;
    within = λ p w. f p (h.within p w);
    full = λ p r. h.full p (g p r);
    inner = λ p w. s p (h.inner p w);
    once = h.once;
  }

  -- one triangle
  pub tiling_one : (R S : Point → Type 0) (t : Triple A) → IsCcw t → ((p : Point) → Within t p → R p)
      → ((p : Point) → R p → Within t p) → ((p : Point) → Inside t p → S p) → Tiling R S (t ∷ [])
  tiling_one R S t ccw within full inner = record {
    ccw = (ccw, tt);
    within = λ p w. ⊎_elim (λ x. within p x) (λ y. absurd y) w;
    full = λ p r. inl (full p r);
    inner = λ p w. ⊎_elim (λ x. inner p x) (λ y. absurd y) w;
    once = λ p. ((λ s w. w), tt);
  }
