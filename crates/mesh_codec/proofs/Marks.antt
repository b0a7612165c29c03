-- Vertices that are numbered by first use stand within the high water mark.
use Rattle.std.proofs.Common.{◌≡◌, ℕ, ◌+◌, ◌<◌, ◌≤◌, List, [], ◌∷◌, ◌++◌, length, take, get_or, Contains, refl, sym, ap, ◌∙◌, inl, inr, arith, append_assoc, subst}
use Rattle.std.proofs.lemmas.List.{get_or_at, take_at, take_more, take-append-le, length-append, length_push, get_or_append_left, get_or_past, get_or_push, get_or_default}
use Rattle.std.proofs.lemmas.Bool.{cases_lt}
use Rattle.std.proofs.lemmas.Bool.Decides.{nat_tests}
use Rattle.mesh_codec.specs.Mesh.{Mesh, IsEncodable}
use Rattle.terrain_base.specs.FirstUse.{IsByFirstUse, corners}
use Rattle.terrain_base.specs.declared.indexes.Indexes.{Indexes}
use Rattle.mesh_codec.specs.Text.{mark_after, AreWithinMark}

-- whatever stands in the list is below the mark
AllBelow : ℕ → List ℕ → Type 0
AllBelow mark before = (k : ℕ) → k < length before → get_or before k 0 < mark

next_below : (mark index : ℕ) (before : List ℕ) → AllBelow mark before → index ≤ mark → AllBelow (mark_after mark index) (before ++ index ∷ [])
unfolding AllBelow
next_below mark index before below within k h = elim (cases_lt k (length before)) [
  | inl early ↦
      let same : get_or (before ++ index ∷ []) k 0 ≡ get_or before k 0 = get_or_append_left before (index ∷ []) 0 k early in
      let old : get_or before k 0 < mark = below k early in
      after_early (get_or (before ++ index ∷ []) k 0) (omega arith)
  | inr late ↦
      let at : length before ≡ k = omega (arith, length_push before index) in
      let same : get_or (before ++ index ∷ []) k 0 ≡ index = get_or_push before index 0 k at in
      after_late (get_or (before ++ index ∷ []) k 0) same
]
  where
    after_early : (x : ℕ) → x < mark → x < mark_after mark index
    after_early x l = grind (arith, nat_tests)

    after_late : (x : ℕ) → x ≡ index → x < mark_after mark index
    after_late x e = grind (arith, nat_tests)

-- each of a lower number stood before
InOrder : List ℕ → Type 0
InOrder whole = (place lower : ℕ) → lower < get_or whole place 0 → Contains (take place whole) lower

within_from : (rest before : List ℕ) (mark : ℕ) → AllBelow mark before → InOrder (before ++ rest) → AreWithinMark mark rest
unfolding AllBelow InOrder
within_from [] before mark below order = tt
within_from (index ∷ rest) before mark below order =
    let here : get_or (before ++ index ∷ rest) (length before) 0 ≡ index = get_or_at before index rest 0 (length before) refl in
    let front : take (length before) (before ++ index ∷ rest) ≡ before = take_at before (index ∷ rest) (length before) refl in
    let within : index ≤ mark = elim (cases_lt mark index) [
      | inl beyond ↦
          let stood = order (length before) mark (omega arith) in
          let found : Contains before mark = let P : List ℕ → Type 0 = λ l. Contains l mark in subst P front stood in
          absurd (omega (arith, below found.0 found.1, found.2, get_or_default before found.0 mark 0 found.1))
      | inr fine ↦ fine
    ] in
    let regrouped : before ++ index ∷ rest ≡ (before ++ index ∷ []) ++ rest = sym (append_assoc before (index ∷ []) rest) in
    (within, within_from rest (before ++ index ∷ []) (mark_after mark index) (next_below mark index before below within) (let P : List ℕ → Type 0 = InOrder in subst P regrouped order))

-- the vertices of the triangles stand within the mark
pub within_mark : (mesh : Mesh) → IsEncodable mesh → AreWithinMark 0 (corners mesh.triangles)
unfolding AllBelow InOrder
within_mark mesh h = within_from (corners mesh.triangles) [] 0 (λ k l. absurd (omega arith)) h.numbered.in_order

-- ---- a list with one index more
contains_left : (before after : List ℕ) (v : ℕ) → Contains before v → Contains (before ++ after) v
contains_left before after v h = (h.0, omega (arith, h.1, length-append before after), get_or_append_left before after v h.0 h.1 ∙ h.2)

pub numbered_none : IsByFirstUse 0 []
numbered_none = record { in_order = λ place lower h. absurd (omega arith); used = λ vertex h. absurd (omega arith) }

pub numbered_next : (mark index : ℕ) (before : List ℕ) → index ≤ mark → IsByFirstUse mark before → IsByFirstUse (mark_after mark index) (before ++ index ∷ [])
numbered_next mark index before within n = record {
  in_order = λ place lower h. elim (cases_lt place (length before)) [
    | inl early ↦
        let same : get_or (before ++ index ∷ []) place 0 ≡ get_or before place 0 = get_or_append_left before (index ∷ []) 0 place early in
        let old = n.in_order place lower (omega (arith, h, same)) in
        let front : take place (before ++ index ∷ []) ≡ take place before = take-append-le place before (index ∷ []) (omega arith) in
        let P : List ℕ → Type 0 = λ l. Contains l lower in subst P (sym front) old
    | inr late ↦ elim (cases_lt (length before) place) [
      | inl beyond ↦
          let none : get_or (before ++ index ∷ []) place 0 ≡ 0 = get_or_past (before ++ index ∷ []) place 0 (omega (arith, length_push before index)) in
          absurd (omega (arith, h, none))
      | inr here ↦
          let at : length before ≡ place = omega arith in
          let same : get_or (before ++ index ∷ []) place 0 ≡ index = get_or_push before index 0 place at in
          let front : take place (before ++ index ∷ []) ≡ before = take_at before (index ∷ []) place at in
          let P : List ℕ → Type 0 = λ l. Contains l lower in subst P (sym front) (n.used lower (omega (arith, h, same, within)))
    ]
  ];
  used = λ vertex h. elim (cases_lt vertex mark) [
    | inl low ↦ contains_left before (index ∷ []) vertex (n.used vertex low)
    | inr high ↦
        let same : vertex ≡ index = last vertex mark index h high within in
        (length before, omega (arith, length_push before index), get_or_push before index vertex (length before) refl ∙ sym same)
  ];
}
  where
    last : (vertex mark index : ℕ) → vertex < mark_after mark index → mark ≤ vertex → index ≤ mark → vertex ≡ index
    last vertex mark index h l w = grind (arith, nat_tests)

corners_push : (triangles : List Indexes) (t : Indexes) → corners (triangles ++ t ∷ []) ≡ ((corners triangles ++ t.a ∷ []) ++ t.b ∷ []) ++ t.c ∷ []
corners_push [] t = refl
corners_push (u ∷ us) t = ap (λ l. u.a ∷ u.b ∷ u.c ∷ l) (corners_push us t)

pub corners_more : (triangles : List Indexes) (i : ℕ) (d : Indexes) → i < length triangles
    → corners (take (i + 1) triangles) ≡ ((corners (take i triangles) ++ (get_or triangles i d).a ∷ []) ++ (get_or triangles i d).b ∷ []) ++ (get_or triangles i d).c ∷ []
corners_more triangles i d h = ap corners (take_more triangles i d h) ∙ corners_push (take i triangles) (get_or triangles i d)
