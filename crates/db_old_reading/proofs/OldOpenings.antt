-- For a migration a map of files opens in one way.
use Rattle.std.proofs.Common.{◌≡◌, ℕ, ◌<◌, ◌++◌, List, [], ◌∷◌, Option, Some, None, refl, sym, ap, subst, ◌∙◌, append_assoc, arith}
use Rattle.std.specs.Prelude.{IsSomeAnd, Bool, true, false, if◌then◌else◌}
use Rattle.std.specs.FinMap.{get}
use Rattle.std.specs.List.{AllByRecursion}
use Rattle.common_laws.proofs.Options.{holds_of_some}
use Rattle.terrain_base.specs.declared.name.Key.TheVariants.{Manifest}
use Rattle.terrain_base.specs.Step.{Files}
use Rattle.dted_cell.specs.declared.trouble.CellTrouble.{CellTrouble}
use Rattle.dted_cell.specs.declared.trouble.CellTrouble.TheVariants.{Lost, Bad, Elsewhere, Changed}
use Rattle.dted_cell.specs.Trouble.{ShowsAt, name_of}
use Rattle.cell_mosaic.specs.Cells.{IsSoundCell}
use Rattle.manifest_lines.specs.declared.version.Version.{Version}
use Rattle.manifest_lines.specs.declared.version.Version.TheVariants.{One, Two, Three}
use Rattle.manifest_lines.specs.Manifest.{manifest_text}
use Rattle.manifest_lines.specs.Version.{version_number, version_line, first_line, begins_as}
use Rattle.manifest_lines.proofs.Readers.{one_bad, refused_is_none}
use Rattle.manifest_lines.proofs.Versions.{text_version}
use Rattle.old_manifest.specs.declared.row.OldRow.{OldRow}
use Rattle.old_manifest.specs.Manifest.{Contents, IsManifest, staged_of, version_of}
use Rattle.old_manifest.specs.OldRows.{old_sound}
use Rattle.old_manifest.specs.Rows.{old_grammar}
use Rattle.database.specs.Reading.{or_nothing}
use Rattle.database.specs.State.{State}
use Rattle.database.proofs.Openings.{no_trouble}
use Rattle.db_old_reading.specs.Kept.{key_of, kept_under, bytes_under}
use Rattle.db_old_reading.specs.OldOpening.{IsKept, IsTroubleAt, IsFirstRow, IsFirstTrouble, OldOpening, Migrates, NotOld, NotADatabase, InTrouble, IsPresent, RefusedAt, MigratesAs}
use Rattle.db_old_reading.specs.OldReads.{OldMark, OldReads, contents_of}
use Rattle.db_old_reading.proofs.OldStates.{HasManifest, of_state, one_manifest, one_state, rows_kept}

-- ---- the version of a text

at_front : (v : Version) (rest : List ℕ) → version_number v < 3 → version_of (first_line v ++ rest) ≡ v
at_front One rest old = refl
at_front Two rest old = refl
at_front Three rest old = absurd (omega arith)

pub version_of_text : (v : Version) (m : Contents) → version_number v < 3 → version_of (manifest_text old_grammar v m) ≡ v
unfolding manifest_text
version_of_text v m old = ap version_of (sym (append_assoc (version_line v) (10 ∷ []) _)) ∙ at_front v _ old

old_either : (two : Bool) → version_number (if two then Two else One) < 3
old_either true = omega arith
old_either false = omega arith

-- bytes are read by an old version
pub version_is_old : (bytes : List ℕ) → version_number (version_of bytes) < 3
version_is_old bytes = old_either (begins_as bytes Two)

-- ---- troubles

none_at : (row : OldRow) (held : Option (List ℕ)) (t : CellTrouble) → IsSomeAnd held (λ bytes. IsSoundCell (key_of row bytes) bytes) → ShowsAt (key_of row (or_nothing held)) held t → ⊥
none_at row None t kept shown = kept
none_at row (Some bytes) t kept shown = no_trouble (key_of row bytes) (Some bytes) t kept shown

shown_at : (files : Files) (staged : Option OldRow) (row : OldRow) (t : CellTrouble) → IsTroubleAt files staged row t
    → ShowsAt (key_of row (bytes_under files (kept_under staged row))) (get files (kept_under staged row)) t
shown_at files staged row t at = subst (λ name. ShowsAt (key_of row (bytes_under files name)) (get files name) t) at.name_is at.shown

-- a row that is kept has no trouble
no_row_trouble : (files : Files) (staged : Option OldRow) (row : OldRow) (t : CellTrouble) → IsKept files staged row → IsTroubleAt files staged row t → ⊥
no_row_trouble files staged row t kept at = none_at row (get files (kept_under staged row)) t kept (shown_at files staged row t at)

in_middle : {A : Type 0} (P : A → Type 0) (front : List A) (x : A) (back : List A) → AllByRecursion P (front ++ x ∷ back) → P x
in_middle P [] x back all = all.0
in_middle P (y ∷ front) x back all = in_middle P front x back all.1

-- rows that all are kept have none
pub none_among : (files : Files) (staged : Option OldRow) (rows : List OldRow) (t : CellTrouble) → AllByRecursion (IsKept files staged) rows → IsFirstRow files staged rows t → ⊥
none_among files staged rows t all f =
    no_row_trouble files staged f.row t (in_middle (IsKept files staged) f.front f.row f.back (subst (λ rs. AllByRecursion (IsKept files staged) rs) f.rows_are all)) f.at

pub not_in_trouble : {files : Files} {v : Version} {s : State} {mark : OldMark} {m : Contents} {t : CellTrouble} → OldReads files v s mark → contents_of v s mark ≡ m → IsFirstRow files (staged_of m.state) m.rows t → ⊥
not_in_trouble {files = files} {t = t} r same f =
    none_among files _ _ t (subst (λ c. AllByRecursion (IsKept files (staged_of c.state)) c.rows) same (rows_kept r)) f

-- of two first troubles among the same rows neither comes first
one_trouble : (row : OldRow) (held : Option (List ℕ)) (t u : CellTrouble) → name_of t ≡ name_of u → ShowsAt (key_of row (or_nothing held)) held t → ShowsAt (key_of row (or_nothing held)) held u → t ≡ u
one_trouble row held (Lost n) (Lost n') e a b = ap Lost e
one_trouble row None (Bad n r) u e a b = absurd a
one_trouble row None (Elsewhere n f) u e a b = absurd a
one_trouble row None (Changed n o f) u e a b = absurd a
one_trouble row None (Lost n) (Bad n' r) e a b = absurd b
one_trouble row None (Lost n) (Elsewhere n' f) e a b = absurd b
one_trouble row None (Lost n) (Changed n' o f) e a b = absurd b
one_trouble row (Some bytes) (Lost n) (Bad n' r) e a b = absurd (cc)
one_trouble row (Some bytes) (Lost n) (Elsewhere n' f) e a b = absurd (cc)
one_trouble row (Some bytes) (Lost n) (Changed n' o f) e a b = absurd (cc)
one_trouble row (Some bytes) (Bad n r) (Lost n') e a b = absurd (cc)
one_trouble row (Some bytes) (Bad n r) (Bad n' r') e a b = let same : r ≡ r' = cc in λ i. Bad (e i) (same i)
one_trouble row (Some bytes) (Bad n r) (Elsewhere n' f) e a b = let x = b.0 in absurd (cc)
one_trouble row (Some bytes) (Bad n r) (Changed n' o f) e a b = let x = b.0 in absurd (cc)
one_trouble row (Some bytes) (Elsewhere n f) (Lost n') e a b = absurd (cc)
one_trouble row (Some bytes) (Elsewhere n f) (Bad n' r) e a b = let x = a.0 in absurd (cc)
one_trouble row (Some bytes) (Elsewhere n f) (Elsewhere n' g) e a b = let same : f ≡ g = sym a.1 ∙ b.1 in λ i. Elsewhere (e i) (same i)
one_trouble row (Some bytes) (Elsewhere n f) (Changed n' o g) e a b = absurd (a.2 (sym a.1 ∙ b.1))
one_trouble row (Some bytes) (Changed n o f) (Lost n') e a b = absurd (cc)
one_trouble row (Some bytes) (Changed n o f) (Bad n' r) e a b = let x = a.0 in absurd (cc)
one_trouble row (Some bytes) (Changed n o f) (Elsewhere n' g) e a b = absurd (b.2 (sym b.1 ∙ a.1))
one_trouble row (Some bytes) (Changed n o f) (Changed n' p g) e a b = let opened : o ≡ p = a.3 ∙ sym b.3 in let found : f ≡ g = sym a.2 ∙ b.2 in λ i. Changed (e i) (opened i) (found i)

one_at : (files : Files) (staged : Option OldRow) (row : OldRow) (t u : CellTrouble) → IsTroubleAt files staged row t → IsTroubleAt files staged row u → t ≡ u
one_at files staged row t u a b = one_trouble row (get files (kept_under staged row)) t u (a.name_is ∙ sym b.name_is) (shown_at files staged row t a) (shown_at files staged row u b)

one_front : (files : Files) (staged : Option OldRow) (front ahead : List OldRow) (row other : OldRow) (back behind : List OldRow) (t u : CellTrouble) → front ++ row ∷ back ≡ ahead ++ other ∷ behind
    → AllByRecursion (IsKept files staged) front → AllByRecursion (IsKept files staged) ahead → IsTroubleAt files staged row t → IsTroubleAt files staged other u → t ≡ u
one_front files staged [] [] row other back behind t u e before ahead_kept a b =
    let lists : row ∷ back ≡ other ∷ behind = e in
    let same : row ≡ other = cc in
    one_at files staged row t u a (subst (λ r. IsTroubleAt files staged r u) (sym same) b)
one_front files staged [] (k ∷ ahead) row other back behind t u e before ahead_kept a b =
    let lists : row ∷ back ≡ k ∷ (ahead ++ other ∷ behind) = e in
    let same : row ≡ k = cc in
    absurd (no_row_trouble files staged k t ahead_kept.0 (subst (λ r. IsTroubleAt files staged r t) same a))
one_front files staged (k ∷ front) [] row other back behind t u e before ahead_kept a b =
    let lists : k ∷ (front ++ row ∷ back) ≡ other ∷ behind = e in
    let same : other ≡ k = cc in
    absurd (no_row_trouble files staged k u before.0 (subst (λ r. IsTroubleAt files staged r u) same b))
one_front files staged (k ∷ front) (j ∷ ahead) row other back behind t u e before ahead_kept a b =
    let lists : k ∷ (front ++ row ∷ back) ≡ j ∷ (ahead ++ other ∷ behind) = e in
    let rest : front ++ row ∷ back ≡ ahead ++ other ∷ behind = cc in
    one_front files staged front ahead row other back behind t u rest before.1 ahead_kept.1 a b

one_first : (files : Files) (staged : Option OldRow) (rows : List OldRow) (t u : CellTrouble) → IsFirstRow files staged rows t → IsFirstRow files staged rows u → t ≡ u
one_first files staged rows t u f g = one_front files staged f.front g.front f.row g.row f.back g.back t u (sym f.rows_are ∙ g.rows_are) f.before g.before f.at g.at

of_trouble : {files : Files} {t : CellTrouble} (f : IsFirstTrouble files t) → HasManifest files f.version f.contents
of_trouble f = record { manifest = f.manifest; good = f.good }

first_once : (files : Files) (t u : CellTrouble) → IsFirstTrouble files t → IsFirstTrouble files u → t ≡ u
first_once files t u f g =
    let contents : g.contents ≡ f.contents = sym (one_manifest (of_trouble f) (of_trouble g)).1 in
    one_first files _ _ t u f.first (subst (λ c. IsFirstRow files (staged_of c.state) c.rows u) contents g.first)

-- ---- refused manifests

pub not_present : {files : Files} {v : Version} {m : Contents} (n : ℕ) → version_number v < 3 → HasManifest files v m → MigratesAs files (NotOld n) → ⊥
not_present {files = files} {v = v} {m = m} n old h is =
    let present = holds_of_some (get files Manifest) (manifest_text old_grammar v m) (IsPresent n) h.manifest is in
    let found : Some (version_number v) ≡ Some n = sym (text_version old_grammar v m) ∙ present.1 in
    let same : version_number v ≡ n = cc in
    let three : n ≡ 3 = present.0 in
    omega arith

pub not_refused : {files : Files} {v : Version} {m : Contents} (line : ℕ) → version_number v < 3 → HasManifest files v m → MigratesAs files (NotADatabase line) → ⊥
not_refused {files = files} {v = v} {m = m} line old h refused =
    let is : RefusedAt line (Some (manifest_text old_grammar v m)) = subst (λ o. RefusedAt line o) h.manifest refused in
    let here = version_of_text v m old in
    let good : IsManifest (version_of (manifest_text old_grammar v m)) m = subst (λ x. IsManifest x m) (sym here) h.good in
    refused_is_none old_grammar old_sound (version_of (manifest_text old_grammar v m)) (manifest_text old_grammar v m) line is.1 m good (ap (λ x. manifest_text old_grammar x m) (sym here))

one_line : (line other : ℕ) (held : Option (List ℕ)) → RefusedAt line held → RefusedAt other held → line ≡ other
one_line line other None a b = a ∙ sym b
one_line line other (Some bytes) a b = one_bad old_grammar old_sound (version_of bytes) bytes line other a.1 b.1

one_version : (n k : ℕ) (held : Option (List ℕ)) → IsSomeAnd held (IsPresent n) → IsSomeAnd held (IsPresent k) → n ≡ k
one_version n k None a b = absurd a
one_version n k (Some bytes) a b = a.0 ∙ sym b.0

present_or_refused : (n line : ℕ) (held : Option (List ℕ)) → IsSomeAnd held (IsPresent n) → RefusedAt line held → ⊥
present_or_refused n line None is refused = is
present_or_refused n line (Some bytes) is refused = refused.0 (is.1 ∙ ap Some is.0)

state_or_trouble : {files : Files} {v : Version} {s : State} {mark : OldMark} {t : CellTrouble} → OldReads files v s mark → IsFirstTrouble files t → ⊥
state_or_trouble r f = not_in_trouble r (one_manifest (of_state r) (of_trouble f)).1 f.first

-- ---- all

pub one_opening : (files : Files) (a b : OldOpening) → MigratesAs files a → MigratesAs files b → a ≡ b
one_opening files (Migrates v s m) (Migrates w t n) p q = let same = one_state p q in λ i. Migrates (same.0 i) (same.1.0 i) (same.1.1 i)
one_opening files (Migrates v s m) (NotOld n) p q = absurd (not_present n p.old (of_state p) q)
one_opening files (Migrates v s m) (NotADatabase line) p q = absurd (not_refused line p.old (of_state p) q)
one_opening files (Migrates v s m) (InTrouble t) p q = absurd (state_or_trouble p q)
one_opening files (NotOld n) (Migrates v s m) p q = absurd (not_present n q.old (of_state q) p)
one_opening files (NotOld n) (NotOld k) p q = ap NotOld (one_version n k (get files Manifest) p q)
one_opening files (NotOld n) (NotADatabase line) p q = absurd (present_or_refused n line (get files Manifest) p q)
one_opening files (NotOld n) (InTrouble t) p q = absurd (not_present n q.old (of_trouble q) p)
one_opening files (NotADatabase line) (Migrates v s m) p q = absurd (not_refused line q.old (of_state q) p)
one_opening files (NotADatabase line) (NotOld n) p q = absurd (present_or_refused n line (get files Manifest) q p)
one_opening files (NotADatabase line) (NotADatabase other) p q = ap NotADatabase (one_line line other (get files Manifest) p q)
one_opening files (NotADatabase line) (InTrouble t) p q = absurd (not_refused line q.old (of_trouble q) p)
one_opening files (InTrouble t) (Migrates v s m) p q = absurd (state_or_trouble q p)
one_opening files (InTrouble t) (NotOld n) p q = absurd (not_present n p.old (of_trouble p) q)
one_opening files (InTrouble t) (NotADatabase line) p q = absurd (not_refused line p.old (of_trouble p) q)
one_opening files (InTrouble t) (InTrouble u) p q = ap InTrouble (first_once files t u p q)
