-- A map of files opens in one way.
use Rattle.std.proofs.Common.{◌≡◌, ℕ, zero, suc, ◌<◌, true, is_some, List, [], ◌∷◌, Option, Some, None, refl, sym, ap, subst, ◌∙◌, ◌⊎◌, inl, inr, arith}
use Rattle.std.specs.Prelude.{IsSomeAnd, slice_get}
use Rattle.std.specs.List.{list_any}
use Rattle.std.specs.Ordering.{eq_by_cmp}
use Rattle.std.specs.FinMap.{get, keys, contains_key-keys}
use Rattle.std.proofs.lemmas.Bool.{cases_order, or_right}
use Rattle.common_laws.proofs.Options.{holds_of_some}
use Rattle.terrain_base.specs.declared.cell_key.CellKey.{CellKey}
use Rattle.db_manifest.specs.Manifest.{ManifestState}
use Rattle.terrain_base.specs.declared.name.Key.TheVariants.{Manifest}
use Rattle.terrain_base.specs.declared.params.Params.{Params}
use Rattle.dted_cell.specs.declared.trouble.CellTrouble.{CellTrouble}
use Rattle.dted_cell.specs.declared.trouble.CellTrouble.TheVariants.{Lost, Bad, Elsewhere, Changed}
use Rattle.dted_cell.specs.Trouble.{ShowsAt, name_of}
use Rattle.terrain_base.specs.CellKey.{key_cmp}
use Rattle.terrain_base.specs.Step.{Files}
use Rattle.cell_mosaic.specs.Cells.{IsSoundCell}
use Rattle.db_manifest.specs.Manifest.{manifest_text, IsManifest}
use Rattle.db_manifest.proofs.Texts.{version_is, differ, none_of}
use Rattle.manifest_lines.proofs.Readers.{one_bad}
use Rattle.manifest_lines.specs.KeyRow.{key_grammar, key_sound}
use Rattle.manifest_lines.specs.declared.version.Version.TheVariants.{Three}
use Rattle.database.specs.State.{State, ReadsAs, kept_under}
use Rattle.database.specs.Opening.{IsOld, IsFirstTrouble, Opening, Opens, OldVersion, NotADatabase, InTrouble, RefusedAt, OpensAs}
use Rattle.database.proofs.Tests.{key_self}
use Rattle.database.proofs.Reading.{one_state, is_manifest}

-- ---- troubles

pub no_trouble : (k : CellKey) (held : Option (List ℕ)) (t : CellTrouble) → IsSomeAnd held (IsSoundCell k) → ShowsAt k held t → ⊥
no_trouble k None t is shown = is
no_trouble k (Some bytes) (Lost name) is shown = absurd (cc)
no_trouble k (Some bytes) (Bad name refusal) is shown = let a = is.cell.accepted in absurd (cc)
no_trouble k (Some bytes) (Elsewhere name found) is shown = shown.2 (sym shown.1 ∙ is.cell.square)
no_trouble k (Some bytes) (Changed name opened found) is shown = shown.4 (sym shown.2 ∙ is.cell.level ∙ sym shown.3)

one_trouble : (k : CellKey) (held : Option (List ℕ)) (t u : CellTrouble) → name_of t ≡ name_of u → ShowsAt k held t → ShowsAt k held u → t ≡ u
one_trouble k held (Lost n) (Lost n') e a b = ap Lost e
one_trouble k None (Bad n r) u e a b = absurd a
one_trouble k None (Elsewhere n f) u e a b = absurd a
one_trouble k None (Changed n o f) u e a b = absurd a
one_trouble k None (Lost n) (Bad n' r) e a b = absurd b
one_trouble k None (Lost n) (Elsewhere n' f) e a b = absurd b
one_trouble k None (Lost n) (Changed n' o f) e a b = absurd b
one_trouble k (Some bytes) (Lost n) (Bad n' r) e a b = absurd (cc)
one_trouble k (Some bytes) (Lost n) (Elsewhere n' f) e a b = absurd (cc)
one_trouble k (Some bytes) (Lost n) (Changed n' o f) e a b = absurd (cc)
one_trouble k (Some bytes) (Bad n r) (Lost n') e a b = absurd (cc)
one_trouble k (Some bytes) (Bad n r) (Bad n' r') e a b = let same : r ≡ r' = cc in λ i. Bad (e i) (same i)
one_trouble k (Some bytes) (Bad n r) (Elsewhere n' f) e a b = let x = b.0 in absurd (cc)
one_trouble k (Some bytes) (Bad n r) (Changed n' o f) e a b = let x = b.0 in absurd (cc)
one_trouble k (Some bytes) (Elsewhere n f) (Lost n') e a b = absurd (cc)
one_trouble k (Some bytes) (Elsewhere n f) (Bad n' r) e a b = let x = a.0 in absurd (cc)
one_trouble k (Some bytes) (Elsewhere n f) (Elsewhere n' g) e a b = let same : f ≡ g = sym a.1 ∙ b.1 in λ i. Elsewhere (e i) (same i)
one_trouble k (Some bytes) (Elsewhere n f) (Changed n' o g) e a b = absurd (a.2 (sym a.1 ∙ b.1))
one_trouble k (Some bytes) (Changed n o f) (Lost n') e a b = absurd (cc)
one_trouble k (Some bytes) (Changed n o f) (Bad n' r) e a b = let x = a.0 in absurd (cc)
one_trouble k (Some bytes) (Changed n o f) (Elsewhere n' g) e a b = absurd (b.2 (sym b.1 ∙ a.1))
one_trouble k (Some bytes) (Changed n o f) (Changed n' p g) e a b = let opened : o ≡ p = a.3 ∙ sym b.3 in let found : f ≡ g = sym a.2 ∙ b.2 in λ i. Changed (e i) (opened i) (found i)

-- ---- good manifests

-- the files have a good manifest
pub record HasManifest (files : Files) (params : Params) (mark : ManifestState) (rows : List CellKey) : Type 0 where
  pub manifest : get files Manifest ≡ Some (manifest_text params mark rows)
  pub good : IsManifest params mark rows

pub of_state : {files : Files} {s : State} {m : ManifestState} → ReadsAs files s m → HasManifest files s.params m (keys s.cells)
of_state r = record { manifest = r.manifest; good = is_manifest r }

of_trouble : {files : Files} {t : CellTrouble} (f : IsFirstTrouble files t) → HasManifest files f.params f.mark f.rows
of_trouble f = record { manifest = f.manifest; good = f.is_good }

pub not_old : {files : Files} {p : Params} {m : ManifestState} {rows : List CellKey} (n : ℕ) → HasManifest files p m rows → OpensAs files (OldVersion n) → ⊥
not_old {files = files} {p = p} {m = m} {rows = rows} n h old =
    let is = holds_of_some (get files Manifest) (manifest_text p m rows) (IsOld n) h.manifest old in
    let found : Some n ≡ Some 3 = sym is.1 ∙ version_is p m rows in
    let same : n ≡ 3 = cc in
    let less = is.0 in
    omega arith

pub not_refused : {files : Files} {p : Params} {m : ManifestState} {rows : List CellKey} (line : ℕ) → HasManifest files p m rows → OpensAs files (NotADatabase line) → ⊥
not_refused {files = files} {p = p} {m = m} {rows = rows} line h refused =
    let is : RefusedAt line (Some (manifest_text p m rows)) = subst (λ o. RefusedAt line o) h.manifest refused in
    none_of (manifest_text p m rows) line is.1 p m rows h.good refl

-- ---- refused manifests

one_line : (line other : ℕ) (held : Option (List ℕ)) → RefusedAt line held → RefusedAt other held → line ≡ other
one_line line other None a b = a ∙ sym b
one_line line other (Some bytes) a b = one_bad key_grammar key_sound Three bytes line other a.1 b.1

one_version : (n k : ℕ) (held : Option (List ℕ)) → IsSomeAnd held (IsOld n) → IsSomeAnd held (IsOld k) → n ≡ k
one_version n k None a b = absurd a
one_version n k (Some bytes) a b = let found : Some n ≡ Some k = sym a.1 ∙ b.1 in cc

old_or_refused : (n line : ℕ) (held : Option (List ℕ)) → IsSomeAnd held (IsOld n) → RefusedAt line held → ⊥
old_or_refused n line None old refused = old
old_or_refused n line (Some bytes) old refused = refused.0 n old

-- ---- first troubles

pub any_at : (rows : List CellKey) (n : ℕ) (k : CellKey) → slice_get rows n ≡ Some k → list_any (eq_by_cmp key_cmp k) rows ≡ true
any_at [] n k e = absurd (cc)
any_at (j ∷ rows) zero k e = let same : j ≡ k = cc in rw same (rw (key_self k) refl)
any_at (j ∷ rows) (suc n) k e = or_right (eq_by_cmp key_cmp k j) (list_any (eq_by_cmp key_cmp k) rows) (any_at rows n k e)

cell_held : (files : Files) (k : CellKey) (held o : Option (List ℕ)) → is_some o ≡ true → ((bytes : List ℕ) → o ≡ Some bytes → (held ≡ Some bytes) × IsSoundCell k bytes) → IsSomeAnd held (IsSoundCell k)
cell_held files k held None some at = absurd (cc)
cell_held files k held (Some bytes) some at = let h = at bytes refl in subst (λ x. IsSomeAnd x (IsSoundCell k)) (sym h.0) h.1

-- what reads as a state has no trouble among its rows
pub apart_from_trouble : {files : Files} {s : State} {m : ManifestState} {t : CellTrouble} → ReadsAs files s m → (f : IsFirstTrouble files t) → m ≡ f.mark → keys s.cells ≡ f.rows → ⊥
apart_from_trouble {files = files} {s = s} {m = m} {t = t} r f marks rows =
    let here : slice_get (keys s.cells) f.place ≡ Some f.row = ap (λ ks. slice_get ks f.place) rows ∙ f.row_is in
    let some : is_some (get s.cells f.row) ≡ true = contains_key-keys s.cells f.row ∙ any_at (keys s.cells) f.place f.row here in
    let kept = cell_held files f.row (get files (kept_under m f.row)) (get s.cells f.row) some (λ bytes at. (r.cells f.row bytes at, r.state.sound f.row bytes at)) in
    let name_is : name_of t ≡ kept_under m f.row = f.name_is ∙ ap (λ x. kept_under x f.row) (sym marks) in
    no_trouble f.row (get files (kept_under m f.row)) t kept (subst (λ q. ShowsAt f.row (get files q) t) name_is f.shown)

not_in_trouble : {files : Files} {s : State} {m : ManifestState} {t : CellTrouble} → ReadsAs files s m → IsFirstTrouble files t → ⊥
not_in_trouble {files = files} {s = s} {m = m} {t = t} r f =
    let texts : Some (manifest_text s.params m (keys s.cells)) ≡ Some (manifest_text f.params f.mark f.rows) = sym r.manifest ∙ f.manifest in
    let text : manifest_text s.params m (keys s.cells) ≡ manifest_text f.params f.mark f.rows = cc in
    let same = differ s.params f.params m f.mark (keys s.cells) f.rows (is_manifest r) f.is_good text in
    apart_from_trouble r f same.1.0 same.1.1

earlier : {files : Files} {t u : CellTrouble} (f : IsFirstTrouble files t) (g : IsFirstTrouble files u) → f.mark ≡ g.mark → f.rows ≡ g.rows → f.place < g.place → ⊥
earlier {files = files} {t = t} f g marks rows less =
    let kept = g.before f.place f.row less (ap (λ ks. slice_get ks f.place) (sym rows) ∙ f.row_is) in
    let name_is : name_of t ≡ kept_under g.mark f.row = f.name_is ∙ ap (λ x. kept_under x f.row) marks in
    no_trouble f.row (get files (kept_under g.mark f.row)) t kept (subst (λ q. ShowsAt f.row (get files q) t) name_is f.shown)

first_of : {files : Files} {t u : CellTrouble} (f : IsFirstTrouble files t) (g : IsFirstTrouble files u) → f.mark ≡ g.mark → f.rows ≡ g.rows
    → (f.place ≡ g.place) ⊎ ((f.place < g.place) ⊎ (g.place < f.place)) → InTrouble t ≡ InTrouble u
first_of {files = files} {t = t} {u = u} f g marks rows (inl place) =
    let rows_at : Some f.row ≡ Some g.row = sym f.row_is ∙ (λ i. slice_get (rows i) (place i)) ∙ g.row_is in
    let row : f.row ≡ g.row = cc in
    let names : name_of t ≡ name_of u = f.name_is ∙ (λ i. kept_under (marks i) (row i)) ∙ sym g.name_is in
    let shown : ShowsAt g.row (get files (name_of u)) t = subst (λ k. ShowsAt k (get files (name_of u)) t) row (subst (λ q. ShowsAt f.row (get files q) t) names f.shown) in
    ap InTrouble (one_trouble g.row (get files (name_of u)) t u names shown g.shown)
first_of f g marks rows (inr (inl less)) = absurd (earlier f g marks rows less)
first_of f g marks rows (inr (inr more)) = absurd (earlier g f (sym marks) (sym rows) more)

one_first : {files : Files} {t u : CellTrouble} → (f : IsFirstTrouble files t) (g : IsFirstTrouble files u) → InTrouble t ≡ InTrouble u
one_first f g =
    let texts : Some (manifest_text f.params f.mark f.rows) ≡ Some (manifest_text g.params g.mark g.rows) = sym f.manifest ∙ g.manifest in
    let text : manifest_text f.params f.mark f.rows ≡ manifest_text g.params g.mark g.rows = cc in
    let same = differ f.params g.params f.mark g.mark f.rows g.rows f.is_good g.is_good text in
    first_of f g same.1.0 same.1.1 (cases_order f.place g.place)

-- ---- all

pub one_opening : (files : Files) (a b : Opening) → OpensAs files a → OpensAs files b → a ≡ b
one_opening files (Opens s m) (Opens t n) p q = let same = one_state p q in λ i. Opens (same.0 i) (same.1 i)
one_opening files (Opens s m) (OldVersion n) p q = absurd (not_old n (of_state p) q)
one_opening files (Opens s m) (NotADatabase line) p q = absurd (not_refused line (of_state p) q)
one_opening files (Opens s m) (InTrouble t) p q = absurd (not_in_trouble p q)
one_opening files (OldVersion n) (Opens s m) p q = absurd (not_old n (of_state q) p)
one_opening files (OldVersion n) (OldVersion k) p q = ap OldVersion (one_version n k (get files Manifest) p q)
one_opening files (OldVersion n) (NotADatabase line) p q = absurd (old_or_refused n line (get files Manifest) p q)
one_opening files (OldVersion n) (InTrouble t) p q = absurd (not_old n (of_trouble q) p)
one_opening files (NotADatabase line) (Opens s m) p q = absurd (not_refused line (of_state q) p)
one_opening files (NotADatabase line) (OldVersion n) p q = absurd (old_or_refused n line (get files Manifest) q p)
one_opening files (NotADatabase line) (NotADatabase other) p q = ap NotADatabase (one_line line other (get files Manifest) p q)
one_opening files (NotADatabase line) (InTrouble t) p q = absurd (not_refused line (of_trouble q) p)
one_opening files (InTrouble t) (Opens s m) p q = absurd (not_in_trouble q p)
one_opening files (InTrouble t) (OldVersion n) p q = absurd (not_old n (of_trouble p) q)
one_opening files (InTrouble t) (NotADatabase line) p q = absurd (not_refused line (of_trouble p) q)
one_opening files (InTrouble t) (InTrouble u) p q = one_first p q
