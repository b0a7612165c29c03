-- Overwriting by the files of a state keeps what stands for it, and ends at its files.
use Rattle.terrain_base.specs.declared.name.Key.{Key}
use Rattle.terrain_base.specs.declared.name.Key.TheVariants.{Manifest, Stage, Cell}
use Rattle.terrain_base.specs.Step.{Files}
use Rattle.terrain_base.specs.Overwrite.{step_to, steps_to, all_changed, is_among}
use Rattle.terrain_base.proofs.Overwrites.{get-overwritten}
use Rattle.terrain_base.proofs.Stops.{missed}
use Rattle.db_manifest.specs.Manifest.{ManifestState}
use Rattle.manifest_lines.specs.declared.state.State.TheVariants.{Closed, Put, Drop, Rebuild}
use Rattle.terrain_base.specs.declared.cell_key.CellKey.{CellKey}
use Rattle.terrain_base.specs.CellKey.{key_cmp}
use Rattle.database.specs.State.{State, IsState, file_of, AreFiles, kept_under, is_stage, ReadsAs, StandsMarked, StandsFor}
use Rattle.database.proofs.Tests.{is_name, name_other, pick}
use Rattle.std.proofs.Common.{◌≡◌, ℕ, ◌+◌, ◌≤◌, Bool, true, false, ◌||◌, cond, List, [], ◌∷◌, ◌++◌, length, take, Some, refl, sym, ap, subst, ◌∙◌, ◌⊎◌, inl, inr, arith, append_assoc, length-append}
use Rattle.std.specs.FinMap.{get}
use Rattle.std.specs.Ordering.{eq_by_cmp}
use Rattle.std.proofs.lemmas.List.{take-map, take-append-le, length-map}
use Rattle.std.proofs.lemmas.List.Folds.{list_any-append}
use Rattle.std.proofs.Math.Seq.{take-append-add}

-- the files overwritten, under some names, by those of the state
abbrev pub over : State → List Key → Files → Files
over s names files = all_changed (steps_to (file_of s) names) files

pub over_at : (s : State) (names : List Key) (files : Files) (q : Key) → get (over s names files) q ≡ cond (is_among q names) (file_of s q) (get files q)
over_at s names files q = get-overwritten (file_of s) names files q

pub over_agrees : (s : State) (names : List Key) (files : Files) (q : Key) → get files q ≡ file_of s q → get (over s names files) q ≡ file_of s q
over_agrees s names files q e = over_at s names files q ∙ pick (is_among q names) (file_of s q) (get files q) e

pub over_missed : (s : State) (names : List Key) (files : Files) (q : Key) → is_among q names ≡ false → get (over s names files) q ≡ get files q
over_missed s names files q e = over_at s names files q ∙ ap (λ b. cond b (file_of s q) (get files q)) e

pub over_hit : (s : State) (names : List Key) (files : Files) (q : Key) → is_among q names ≡ true → get (over s names files) q ≡ file_of s q
over_hit s names files q e = over_at s names files q ∙ ap (λ b. cond b (file_of s q) (get files q)) e

one_of : (b : Bool) (x y : Key) → (cond b x y ≡ x) ⊎ (cond b x y ≡ y)
one_of true x y = inl refl
one_of false x y = inr refl

pub kept_is : (m : ManifestState) (j : CellKey) → (kept_under m j ≡ Stage) ⊎ (kept_under m j ≡ Cell j)
kept_is Closed j = inr refl
kept_is (Put k) j = one_of (eq_by_cmp key_cmp j k) Stage (Cell j)
kept_is (Drop k) j = inr refl
kept_is Rebuild j = inr refl

kept_file : (s : State) (files : Files) (m : ManifestState) (names : List Key) (j : CellKey) (bytes : List ℕ) → is_among Stage names ≡ false → ReadsAs files s m → get s.cells j ≡ Some bytes
    → (kept_under m j ≡ Stage) ⊎ (kept_under m j ≡ Cell j) → get (over s names files) (kept_under m j) ≡ Some bytes
kept_file s files m names j bytes out r at (inl e) =
    ap (get (over s names files)) e ∙ over_missed s names files Stage out ∙ sym (ap (get files) e) ∙ r.cells j bytes at
kept_file s files m names j bytes out r at (inr e) =
    ap (get (over s names files)) e ∙ over_agrees s names files (Cell j) (sym (ap (get files) e) ∙ r.cells j bytes at ∙ sym at) ∙ at

-- while manifest and stage are left, what reads as the state still does
pub reads_kept : (s : State) (files : Files) (m : ManifestState) (names : List Key) → is_among Manifest names ≡ false → is_among Stage names ≡ false → ReadsAs files s m → ReadsAs (over s names files) s m
reads_kept s files m names no_manifest no_stage r = record {
  manifest = over_missed s names files Manifest no_manifest ∙ r.manifest;
  fit = r.fit;
  cells = λ j bytes at. kept_file s files m names j bytes no_stage r at (kept_is m j);
  state = r.state;
}

pub marked_kept : (s : State) (files : Files) (m : ManifestState) (names : List Key) → is_among Manifest names ≡ false → is_among Stage names ≡ false → StandsMarked files s m → StandsMarked (over s names files) s m
marked_kept s files m names no_manifest no_stage st = record {
  reads = reads_kept s files m names no_manifest no_stage st.reads;
  agrees = λ q free. over_agrees s names files q (st.agrees q free);
}

-- all names whose file is not yet that of the state are among these
pub record Covers (files : Files) (s : State) (names : List Key) : Type 0 where
  pub rest : (q : Key) → is_among q names ≡ false → get files q ≡ file_of s q

pub by_test : (b : Bool) (P : Type 0) → (b ≡ true → P) → (b ≡ false → P) → P
by_test true P at_true at_false = at_true refl
by_test false P at_true at_false = at_false refl

pub over_all : (s : State) (files : Files) (names : List Key) → Covers files s names → AreFiles (over s names files) s
over_all s files names covers = record {
  each = λ q. by_test (is_among q names) _ (λ e. over_hit s names files q e) (λ e. over_missed s names files q e ∙ covers.rest q e);
}

pub closed_stands : (s : State) (files : Files) → IsState s
    → ((q : Key) → is_stage q ≡ false → get files q ≡ file_of s q) → StandsMarked files s Closed
closed_stands s files good agrees = record {
  reads = record { manifest = agrees Manifest refl; fit = refl; cells = λ j bytes at. agrees (Cell j) refl ∙ at; state = good };
  agrees = agrees;
}

pub stage_apart : (q : Key) → is_stage q ≡ false → is_name q Stage ≡ false
stage_apart q e = name_other q Stage (λ same. let h : is_stage q ≡ true = ap is_stage same in cc)

or_false : (a : Bool) → a ≡ false → (a || (false || false)) ≡ false
or_false a e = rw e refl

-- all but the stage is done
pub almost_all : (s : State) (files : Files) (names : List Key) → Covers files s (names ++ Stage ∷ []) → (q : Key) → is_stage q ≡ false → get (over s names files) q ≡ file_of s q
almost_all s files names covers q e = by_test (is_among q names) _
    (λ in_names. over_hit s names files q in_names)
    (λ out. over_missed s names files q out ∙ covers.rest q (list_any-append (is_name q) names (Stage ∷ []) ∙ rw (stage_apart q e) (or_false _ out)))

pub three_ways : (n k : ℕ) → n ≤ k + 2 → (n ≤ k) ⊎ ((n ≡ k + 1) ⊎ (n ≡ k + 2))
three_ways n k le = grind arith

by_front : (s : State) (files : Files) (m : ManifestState) (front : List Key) → is_among Manifest front ≡ false → is_among Stage front ≡ false
    → StandsMarked files s m → Covers files s (front ++ (Manifest ∷ Stage ∷ [])) → (n : ℕ) → (n ≤ length front) ⊎ ((n ≡ length front + 1) ⊎ (n ≡ length front + 2))
    → StandsFor (over s (take n (front ++ (Manifest ∷ Stage ∷ []))) files) s
by_front s files m front no_manifest no_stage st covers n (inl le) =
    subst (λ names. StandsFor (over s names files) s) (sym (take-append-le n front (Manifest ∷ Stage ∷ []) le))
    (record { mark = m; stands = marked_kept s files m (take n front) (missed Manifest n front no_manifest) (missed Stage n front no_stage) st })
by_front s files m front no_manifest no_stage st covers n (inr (inl e)) =
    let names : take n (front ++ (Manifest ∷ Stage ∷ [])) ≡ front ++ Manifest ∷ [] = ap (λ k. take k (front ++ (Manifest ∷ Stage ∷ []))) e ∙ take-append-add front (Manifest ∷ Stage ∷ []) 1 in
    let rest : Covers files s ((front ++ Manifest ∷ []) ++ Stage ∷ []) = subst (λ ns. Covers files s ns) (sym (append_assoc front (Manifest ∷ []) (Stage ∷ []))) covers in
    subst (λ ns. StandsFor (over s ns files) s) (sym names)
    (record { mark = Closed; stands = closed_stands s (over s (front ++ Manifest ∷ []) files) st.reads.state (almost_all s files (front ++ Manifest ∷ []) rest) })
by_front s files m front no_manifest no_stage st covers n (inr (inr e)) =
    let names : take n (front ++ (Manifest ∷ Stage ∷ [])) ≡ front ++ (Manifest ∷ Stage ∷ []) = ap (λ k. take k (front ++ (Manifest ∷ Stage ∷ []))) e ∙ take-append-add front (Manifest ∷ Stage ∷ []) 2 in
    let all = over_all s files (front ++ (Manifest ∷ Stage ∷ [])) covers in
    subst (λ ns. StandsFor (over s ns files) s) (sym names)
    (record { mark = Closed; stands = closed_stands s (over s (front ++ (Manifest ∷ Stage ∷ [])) files) st.reads.state (λ q e. all.each q) })

-- Each front of the steps behind a mark leaves files that stand for the state.
pub closing_stands : (s : State) (files : Files) (m : ManifestState) (front : List Key) → is_among Manifest front ≡ false → is_among Stage front ≡ false
    → StandsMarked files s m → Covers files s (front ++ (Manifest ∷ Stage ∷ [])) → (n : ℕ) → n ≤ length (steps_to (file_of s) (front ++ (Manifest ∷ Stage ∷ [])))
    → StandsFor (all_changed (take n (steps_to (file_of s) (front ++ (Manifest ∷ Stage ∷ [])))) files) s
closing_stands s files m front no_manifest no_stage st covers n le =
    let fits : n ≤ length front + 2 = omega (arith, length-append front (Manifest ∷ Stage ∷ []), length-map (front ++ (Manifest ∷ Stage ∷ [])) (λ name. step_to (file_of s name) name)) in
    subst (λ steps. StandsFor (all_changed steps files) s) (sym (take-map (λ name. step_to (file_of s name) name) n (front ++ (Manifest ∷ Stage ∷ []))))
    (by_front s files m front no_manifest no_stage st covers n (three_ways n (length front) fits))
