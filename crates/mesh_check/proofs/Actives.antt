-- The triangles that reach through a slab, kept from slab to slab.
use Rattle.std.proofs.Common.{◌≡◌, ℕ, ◌+◌, ◌<◌, ◌≤◌, Bool, true, false, cond, refl, ap, sym, subst, ◌∙◌, arith, List}
use Rattle.std.proofs.Common.{[], ◌∷◌, ◌++◌, take, length, slice_index_or}
use Rattle.std.specs.Prelude.{filter, All}
use Rattle.std.proofs.lemmas.List.{append-nil, append_assoc, take_more}
use Rattle.std.proofs.lemmas.List.Elements.{All-nil, All-append, All-push, All-weaker, filter-append}
use Rattle.std.proofs.lemmas.Bool.{leb-true, le-leb}
use Rattle.mesh_check.specs.Spans.{Span, Active, reaches_up, AreBegun, AreTaken, IsRest, AreThrough}

pub taken_start : (spans : List Span) (old : Active) (low : ℕ) → old.next ≤ length spans
    → AreTaken spans old old low old.next
taken_start spans old low l = record {
  next = refl;
  within = l;
  taken = [];
  after = sym (append-nil (take old.next spans));
  items = sym (append-nil old.spans.items);
  begun = All-nil (λ s. s.low ≤ low);
}

pub taken_on : (spans : List Span) (old now after : Active) (low k : ℕ) (d : Span) → AreTaken spans old now low k
    → k < length spans
    → (slice_index_or spans k d).low ≤ low → after.spans.items ≡ now.spans.items ++ slice_index_or spans k d ∷ []
    → after.next ≡ k + 1 → AreTaken spans old after low (k + 1)
taken_on spans old now after low k d t l b e n = record {
  next = n;
  within = omega (arith, l);
  taken = t.taken ++ slice_index_or spans k d ∷ [];
  after = take_more spans k d l ∙ ap (λ (xs : List Span). xs ++ slice_index_or spans k d ∷ []) t.after ∙ append_assoc
      (take old.next spans) t.taken (slice_index_or spans k d ∷ []);
  items = e ∙ ap (λ (xs : List Span). xs ++ slice_index_or spans k d ∷ []) t.items
      ∙ append_assoc old.spans.items t.taken (slice_index_or spans k d ∷ []);
  begun = All-push (λ s. s.low ≤ low) t.taken (slice_index_or spans k d) t.begun b;
}

-- what passes the stronger test passes the weaker one
module _ {X : Type 0} (p q : X → Bool) (h : (x : X) → p x ≡ true → q x ≡ true) where
  weaker_head : (x : X) (xs ys zs : List X) (b c : Bool) → q x ≡ b → p x ≡ c → filter p ys ≡ zs → filter p
      (cond (q x) (x ∷ ys) ys) ≡ cond (p x) (x ∷ zs) zs
  weaker_head x xs ys zs true c e f k = ap (λ (b : Bool). filter p (cond b (x ∷ ys) ys)) e ∙ ap
      (λ (us : List X). cond (p x) (x ∷ us) us) k
  weaker_head x xs ys zs false true e f k = absurd (let g : true ≡ false = sym (h x f) ∙ e in cc)
  weaker_head x xs ys zs false false e f k = ap (λ (b : Bool). filter p (cond b (x ∷ ys) ys)) e ∙ k ∙ sym
      (ap (λ (b : Bool). cond b (x ∷ zs) zs) f)

  filter_weaker : (xs : List X) → filter p (filter q xs) ≡ filter p xs
  filter_weaker [] = refl
  filter_weaker (x ∷ xs) = weaker_head x xs (filter q xs) (filter p xs) (q x) (p x) refl refl (filter_weaker xs)

higher : (low high : ℕ) → low < high → (s : Span) → reaches_up high s ≡ true → reaches_up low s ≡ true
higher low high l s e = le-leb low s.high (omega (arith, l, leb-true high s.high e))

pub through : (spans : List Span) (old now new : Active) (low high : ℕ) → low < high → AreBegun spans old low
    → AreTaken spans old now low now.next → IsRest spans low now.next
    → new.spans.items ≡ filter (reaches_up high) now.spans.items → new.next ≡ now.next → AreThrough spans new low high
through spans old now new low high l b t r e n = record {
  are = subst (λ (k : ℕ). new.spans.items ≡ filter (reaches_up high) (take k spans)) (sym n)
      (e ∙ ap (λ (xs : List Span). filter (reaches_up high) xs) (t.items ∙ ap (λ (xs : List Span). xs ++ t.taken) b.are)
      ∙ filter-append (reaches_up high) (filter (reaches_up low) (take old.next spans)) t.taken
      ∙ ap (λ (xs : List Span). xs ++ filter (reaches_up high) t.taken) (filter_weaker (reaches_up high)
      (reaches_up low) (higher low high l) (take old.next spans))
      ∙ sym (filter-append (reaches_up high) (take old.next spans) t.taken)
      ∙ ap (λ (xs : List Span). filter (reaches_up high) xs) (sym t.after));
  within = subst (λ (k : ℕ). k ≤ length spans) (sym n) t.within;
  begun = subst (λ (k : ℕ). All (λ s. s.low ≤ low) (take k spans)) (sym n)
      (subst (λ (xs : List Span). All (λ s. s.low ≤ low) xs) (sym t.after) (All-append (λ s. s.low ≤ low)
      (take old.next spans) t.taken b.begun t.begun));
  rest = subst (λ (k : ℕ). IsRest spans low k) (sym n) r;
}

pub begun_after : (spans : List Span) (active : Active) (low high : ℕ) → low < high → AreThrough spans active low high
    → AreBegun spans active high
begun_after spans active low high l t = record {
  are = t.are;
  within = t.within;
  begun = All-weaker (λ s. s.low ≤ low) (λ s. s.low ≤ high) (λ s h. omega (arith, h, l))
      (take active.next spans) t.begun;
}
