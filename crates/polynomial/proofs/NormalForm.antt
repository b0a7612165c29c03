-- Equations between polynomials over the integers, by a normal form that computes: `by_ring e f r refl`.
use Rattle.std.proofs.Common.{◌≡◌, ℕ, refl, ap, arith, sym, ◌∙◌, List, [], ◌∷◌, Bool, true, false, cond, eqb, ltb, subst, T}
use Rattle.std.specs.Prelude.{ℤ, pos, negsuc, ◌+ℤ◌, ◌-ℤ◌, ◌*ℤ◌, neg_ℤ}
use lib.Dec.{eqb→eq}
use Rattle.std.proofs.lemmas.Int.{ints}
use Rattle.polynomial.proofs.Expressions.{Expr, var, num, add, sub, mul, same, at, val}

-- a coefficient and the sorted numbers of the variables
pub record Term : Type 0 where
  pub co : ℤ
  pub vars : List ℕ

abbrev pub prod : List ℤ → List ℕ → ℤ
prod r [] = pos 1
prod r (i ∷ is) = at r i *ℤ prod r is

abbrev pub eval : List ℤ → List Term → ℤ
eval r [] = pos 0
eval r (t ∷ ts) = t.co *ℤ prod r t.vars +ℤ eval r ts

-- the lists of variables agree
abbrev pub alike : List ℕ → List ℕ → Bool
alike [] [] = true
alike [] (j ∷ js) = false
alike (i ∷ is) [] = false
alike (i ∷ is) (j ∷ js) = cond (eqb i j) (alike is js) false

-- the first is lesser
abbrev pub lesser : List ℕ → List ℕ → Bool
lesser is [] = false
lesser [] (j ∷ js) = true
lesser (i ∷ is) (j ∷ js) = cond (eqb i j) (lesser is js) (ltb i j)

abbrev pub put : ℕ → List ℕ → List ℕ
put i [] = i ∷ []
put i (j ∷ js) = elim (ltb j i) [ true ↦ j ∷ put i js | false ↦ i ∷ j ∷ js ]

abbrev pub join : List ℕ → List ℕ → List ℕ
join [] js = js
join (i ∷ is) js = put i (join is js)

abbrev pub insert : Term → List Term → List Term
insert t [] = t ∷ []
insert t (s ∷ ss) =
    elim (alike t.vars s.vars) [
      | true ↦ record { co = t.co +ℤ s.co; vars = s.vars } ∷ ss
      | false ↦ elim
          (lesser t.vars s.vars) [ true ↦ t ∷ s ∷ ss | false ↦ s ∷ insert t ss ]
    ]

abbrev pub plus : List Term → List Term → List Term
plus [] ss = ss
plus (t ∷ ts) ss = insert t (plus ts ss)

abbrev pub minus : List Term → List Term → List Term
minus ss [] = ss
minus ss (t ∷ ts) = insert (record { co = neg_ℤ t.co; vars = t.vars }) (minus ss ts)

-- ts times one term, added to ss
abbrev pub scale : Term → List Term → List Term → List Term
scale t [] ss = ss
scale t (u ∷ us) ss = insert (record { co = t.co *ℤ u.co; vars = join t.vars u.vars }) (scale t us ss)

abbrev pub times : List Term → List Term → List Term
times [] us = []
times (t ∷ ts) us = scale t us (times ts us)

abbrev pub norm : Expr → List Term
norm (var i) = record { co = pos 1; vars = i ∷ [] } ∷ []
norm (num n) = record { co = pos n; vars = [] } ∷ []
norm (add a b) = plus (norm a) (norm b)
norm (sub a b) = minus (norm a) (norm b)
norm (mul a b) = times (norm a) (norm b)

abbrev pub is_nought : ℤ → Bool
is_nought (pos n) = eqb n 0
is_nought (negsuc n) = false

abbrev pub vanishes : List Term → Bool
vanishes [] = true
vanishes (t ∷ ts) = cond (is_nought t.co) (vanishes ts) false

-- ---- soundness
rearranged : (a b c : ℤ) → a *ℤ (b *ℤ c) ≡ b *ℤ (a *ℤ c)
rearranged a b c =
    same (mul (var 0) (mul (var 1) (var 2))) (mul (var 1) (mul (var 0) (var 2))) (a ∷ b ∷ c ∷ [])
    (omega arith)

times_assoc : (a b c : ℤ) → (a *ℤ b) *ℤ c ≡ a *ℤ (b *ℤ c)
times_assoc a b c =
    same (mul (mul (var 0) (var 1)) (var 2)) (mul (var 0) (mul (var 1) (var 2))) (a ∷ b ∷ c ∷ [])
    (omega arith)

one_times : (a : ℤ) → pos 1 *ℤ a ≡ a
one_times a = same (mul (num 1) (var 0)) (var 0) (a ∷ []) (omega arith)

nought_times : (a : ℤ) → pos 0 *ℤ a ≡ pos 0
nought_times a = same (mul (num 0) (var 0)) (num 0) (a ∷ []) (omega arith)

spread : (a b c : ℤ) → (a +ℤ b) *ℤ c ≡ a *ℤ c +ℤ b *ℤ c
spread a b c =
    same (mul (add (var 0) (var 1)) (var 2)) (add (mul (var 0) (var 2)) (mul (var 1) (var 2)))
    (a ∷ b ∷ c ∷ []) (omega arith)

spread_right : (a b c : ℤ) → a *ℤ (b +ℤ c) ≡ a *ℤ b +ℤ a *ℤ c
spread_right a b c =
    same (mul (var 0) (add (var 1) (var 2))) (add (mul (var 0) (var 1)) (mul (var 0) (var 2)))
    (a ∷ b ∷ c ∷ []) (omega arith)

cancelled : (a : ℤ) → a +ℤ neg_ℤ a ≡ pos 0
cancelled a = omega (arith, ints)

negated : (a b : ℤ) → neg_ℤ a *ℤ b ≡ neg_ℤ (a *ℤ b)
negated a b = let h : (a +ℤ neg_ℤ a) *ℤ b ≡ pos 0 = ap (λ t. t *ℤ b) (cancelled a)
    ∙ nought_times b in omega (arith, ints, spread a (neg_ℤ a) b, h)

regrouped : (a b c d : ℤ) → (a *ℤ b) *ℤ (c *ℤ d) ≡ (a *ℤ c) *ℤ (b *ℤ d)
regrouped a b c d =
    same (mul (mul (var 0) (var 1)) (mul (var 2) (var 3))) (mul (mul (var 0) (var 2)) (mul (var 1) (var 3)))
    (a ∷ b ∷ c ∷ d ∷ []) (omega arith)

prod_alike : (r : List ℤ) (is js : List ℕ) → alike is js ≡ true → prod r is ≡ prod r js
prod_alike r [] [] e = refl
prod_alike r [] (j ∷ js) e = cc
prod_alike r (i ∷ is) [] e = cc
prod_alike r (i ∷ is) (j ∷ js) e = go (eqb i j) refl e (prod_alike r is js)
  where
    go : (b : Bool) → eqb i j ≡ b → cond b (alike is js) false ≡ true
        → (alike is js ≡ true → prod r is ≡ prod r js) → at r i *ℤ prod r is ≡ at r j *ℤ prod r js
    go true f e k = let g : i ≡ j = eqb→eq i j (subst T (sym f) tt) in
        let h : prod r is ≡ prod r js = k e in cc
    go false f e k = cc

prod_put : (r : List ℤ) (i : ℕ) (js : List ℕ) → prod r (put i js) ≡ at r i *ℤ prod r js
prod_put r i [] = refl
prod_put r i (j ∷ js) = go (ltb j i) (prod_put r i js)
  where
    go : (b : Bool) → prod r (put i js) ≡ at r i *ℤ prod r js
        → prod r (elim b as (λ _. List ℕ) [ true ↦ j ∷ put i js | false ↦ i ∷ j ∷ js ])
        ≡ at r i *ℤ (at r j *ℤ prod r js)
    go true h = ap (λ t. at r j *ℤ t) h ∙ rearranged (at r j) (at r i) (prod r js)
    go false h = refl

prod_join : (r : List ℤ) (is js : List ℕ) → prod r (join is js) ≡ prod r is *ℤ prod r js
prod_join r [] js = sym (one_times (prod r js))
prod_join r (i ∷ is) js = prod_put r i (join is js) ∙ ap (λ t. at r i *ℤ t) (prod_join r is js)
    ∙ sym (times_assoc (at r i) (prod r is) (prod r js))

eval_insert : (r : List ℤ) (t : Term) (ss : List Term)
    → eval r (insert t ss) ≡ t.co *ℤ prod r t.vars +ℤ eval r ss
eval_insert r t [] = refl
eval_insert r t (s ∷ ss) = go (alike t.vars s.vars) refl (lesser t.vars s.vars) (eval_insert r t ss)
  where
    go : (b : Bool) → alike t.vars s.vars ≡ b → (c : Bool)
        → eval r (insert t ss) ≡ t.co *ℤ prod r t.vars +ℤ eval r ss
        → eval r (elim b as
        (λ _. List Term) [
          | true ↦ record { co = t.co +ℤ s.co; vars = s.vars } ∷ ss
          | false ↦ elim c as
              (λ _. List Term) [ true ↦ t ∷ s ∷ ss | false ↦ s ∷ insert t ss ]
        ])
        ≡ t.co *ℤ prod r t.vars +ℤ (s.co *ℤ prod r s.vars +ℤ eval r ss)
    go true e c k = let h : t.co *ℤ prod r t.vars ≡ t.co *ℤ prod r s.vars =
        ap (λ x. t.co *ℤ x) (prod_alike r t.vars s.vars e) in omega
        (arith, ints, h, spread t.co s.co (prod r s.vars))
    go false e true k = refl
    go false e false k = omega (arith, ints, k)

eval_plus : (r : List ℤ) (ts ss : List Term) → eval r (plus ts ss) ≡ eval r ts +ℤ eval r ss
eval_plus r [] ss = omega (arith, ints)
eval_plus r (t ∷ ts) ss = omega (arith, ints, eval_insert r t (plus ts ss), eval_plus r ts ss)

eval_minus : (r : List ℤ) (ss ts : List Term) → eval r (minus ss ts) ≡ eval r ss -ℤ eval r ts
eval_minus r ss [] = omega (arith, ints)
eval_minus r ss (t ∷ ts) =
    omega (
      arith,
      ints,
      eval_insert r (record { co = neg_ℤ t.co; vars = t.vars }) (minus ss ts),
      eval_minus r ss ts,
      negated t.co (prod r t.vars),
    )

eval_scale : (r : List ℤ) (t : Term) (us ss : List Term)
    → eval r (scale t us ss) ≡ (t.co *ℤ prod r t.vars) *ℤ eval r us +ℤ eval r ss
eval_scale r t [] ss = omega (arith, ints)
eval_scale r t (u ∷ us) ss =
    let a : (t.co *ℤ u.co) *ℤ prod r
    (join t.vars u.vars) ≡ (t.co *ℤ prod r t.vars) *ℤ (u.co *ℤ prod r u.vars) =
    ap (λ x. (t.co *ℤ u.co) *ℤ x) (prod_join r t.vars u.vars)
    ∙ regrouped t.co u.co (prod r t.vars) (prod r u.vars) in omega (
      arith,
      ints,
      eval_insert r (record { co = t.co *ℤ u.co; vars = join t.vars u.vars })
          (scale t us ss),
      eval_scale r t us ss,
      a,
      spread_right (t.co *ℤ prod r t.vars) (u.co *ℤ prod r u.vars) (eval r us),
    )

eval_times : (r : List ℤ) (ts us : List Term) → eval r (times ts us) ≡ eval r ts *ℤ eval r us
eval_times r [] us = sym (nought_times (eval r us))
eval_times r (t ∷ ts) us =
    omega (
      arith,
      ints,
      eval_scale r t us (times ts us),
      eval_times r ts us,
      spread (t.co *ℤ prod r t.vars) (eval r ts) (eval r us),
    )

eval_norm : (r : List ℤ) (e : Expr) → eval r (norm e) ≡ val e r
eval_norm r (var i) =
    same (add (mul (num 1) (mul (var 0) (num 1))) (num 0)) (var 0) (at r i ∷ []) (omega arith)
eval_norm r (num n) = same (add (mul (var 0) (num 1)) (num 0)) (var 0) (pos n ∷ []) (omega arith)
eval_norm r (add a b) = let h : eval r (norm a) ≡ val a r = eval_norm r a in
    let k : eval r (norm b) ≡ val b r = eval_norm r b in eval_plus r (norm a) (norm b)
    ∙ ap (λ x. x +ℤ eval r (norm b)) h ∙ ap (λ x. val a r +ℤ x) k
eval_norm r (sub a b) = let h : eval r (norm a) ≡ val a r = eval_norm r a in
    let k : eval r (norm b) ≡ val b r = eval_norm r b in eval_minus r (norm a) (norm b)
    ∙ ap (λ x. x -ℤ eval r (norm b)) h ∙ ap (λ x. val a r -ℤ x) k
eval_norm r (mul a b) = let h : eval r (norm a) ≡ val a r = eval_norm r a in
    let k : eval r (norm b) ≡ val b r = eval_norm r b in eval_times r (norm a) (norm b)
    ∙ ap (λ x. x *ℤ eval r (norm b)) h ∙ ap (λ x. val a r *ℤ x) k

nought_is : (z : ℤ) → is_nought z ≡ true → z ≡ pos 0
nought_is (pos n) e = let h : n ≡ 0 = eqb→eq n 0 (subst T (sym e) tt) in ap pos h
nought_is (negsuc n) e = cc

eval_vanishes : (r : List ℤ) (ts : List Term) → vanishes ts ≡ true → eval r ts ≡ pos 0
eval_vanishes r [] e = refl
eval_vanishes r (t ∷ ts) e = go (is_nought t.co) refl e (eval_vanishes r ts)
  where
    go : (b : Bool) → is_nought t.co ≡ b → cond b (vanishes ts) false ≡ true
        → (vanishes ts ≡ true → eval r ts ≡ pos 0) → t.co *ℤ prod r t.vars +ℤ eval r ts ≡ pos 0
    go true f e k = let h : t.co *ℤ prod r t.vars ≡ pos 0 = ap (λ x. x *ℤ prod r t.vars) (nought_is t.co f)
        ∙ nought_times (prod r t.vars) in omega (arith, ints, h, k e)
    go false f e k = cc

pub by_ring : (e f : Expr) (r : List ℤ) → vanishes (norm (sub e f)) ≡ true → val e r ≡ val f r
by_ring e f r h = omega (arith, ints, eval_norm r (sub e f), eval_vanishes r (norm (sub e f)) h)
