-- Which cells of an old database get another name.
use Rattle.std.proofs.Common.{◌≡◌, Bool, true, false, ◌||◌, List, [], ◌∷◌, map, cond, Option, refl, ap, ◌∙◌, ◌⊎◌, inl, inr}
use Rattle.std.specs.Prelude.{if◌then◌else◌}
use Rattle.std.specs.List.{filter, list_any}
use Rattle.std.specs.Ordering.{eq_by_cmp}
use Rattle.std.proofs.lemmas.Bool.{or_right}
use Rattle.terrain_base.specs.declared.cell_key.CellKey.{CellKey}
use Rattle.terrain_base.specs.declared.name.Key.{Key}
use Rattle.terrain_base.specs.declared.name.Key.TheVariants.{Stage, Cell}
use Rattle.terrain_base.specs.CellKey.{key_at, key_cmp}
use Rattle.terrain_base.specs.Overwrite.{is_among}
use Rattle.manifest_lines.specs.declared.version.Version.{Version}
use Rattle.manifest_lines.specs.declared.version.Version.TheVariants.{One, Two, Three}
use Rattle.old_manifest.specs.declared.row.OldRow.{OldRow}
use Rattle.database.proofs.Among.{cell_test}
use Rattle.database.proofs.Tests.{name_other, key_same}
use Rattle.db_old_reading.specs.Kept.{row_of, is_staged, name_by, kept_under}
use Rattle.db_migrate.specs.Moves.{is_moved}

-- ---- names

-- the name is that of no cell of the present version
abbrev pub NoCell : Key → Type 0
NoCell name = (key : CellKey) → name ≡ Cell key → ⊥

pub no_cell_among : (name : Key) (keys : List CellKey) → NoCell name → is_among name (map Cell keys) ≡ false
no_cell_among name [] never = refl
no_cell_among name (key ∷ keys) never = rw (name_other name (Cell key) (never key)) (no_cell_among name keys never)

own_name : (v : Version) (key : CellKey) → (name_by (row_of v key).level (row_of v key).square ≡ Cell key) ⊎ NoCell (name_by (row_of v key).level (row_of v key).square)
own_name One key = inr (λ other e. cc)
own_name Two key = inl refl
own_name Three key = inl refl

own_or_stage : (b : Bool) (v : Version) (key : CellKey) → ((if b then Stage else name_by (row_of v key).level (row_of v key).square) ≡ Cell key) ⊎ NoCell (if b then Stage else name_by (row_of v key).level (row_of v key).square)
own_or_stage true v key = inr (λ other e. cc)
own_or_stage false v key = own_name v key

-- a cell is kept under its name of the present version, or under that of no cell
pub kept_either : (staged : Option OldRow) (v : Version) (key : CellKey) → (kept_under staged (row_of v key) ≡ Cell key) ⊎ NoCell (kept_under staged (row_of v key))
kept_either staged v key = own_or_stage (is_staged staged (row_of v key)) v key

-- one that is not moved is kept under its name
pub not_moved : (staged : Option OldRow) (v : Version) (key : CellKey) → is_moved staged (row_of v key) ≡ false → kept_under staged (row_of v key) ≡ Cell key
not_moved staged One key e = absurd (cc)
not_moved staged Two key e = ap (λ b. if b then Stage else Cell (key_at key.square key.level)) e
not_moved staged Three key e = ap (λ b. if b then Stage else Cell (key_at key.square key.level)) e

-- ---- the new names

one_moved : (p : CellKey → Bool) (key k : CellKey) (keys : List CellKey) (b c : Bool) → eq_by_cmp key_cmp key k ≡ b → p k ≡ c
    → (b || list_any (eq_by_cmp key_cmp key) keys) ≡ true → p key ≡ true
    → (list_any (eq_by_cmp key_cmp key) keys ≡ true → is_among (Cell key) (map Cell (filter p keys)) ≡ true)
    → is_among (Cell key) (map Cell (cond c (k ∷ filter p keys) (filter p keys))) ≡ true
one_moved p key k keys true true e f at passes rest = ap (λ x. x || is_among (Cell key) (map Cell (filter p keys))) (cell_test key k ∙ e)
one_moved p key k keys true false e f at passes rest = absurd (let same : p key ≡ p k = ap p (key_same key k e) in cc)
one_moved p key k keys false true e f at passes rest = or_right _ _ (rest at)
one_moved p key k keys false false e f at passes rest = rest at

-- a key that passes is among those that pass
pub moved_among : (p : CellKey → Bool) (key : CellKey) (keys : List CellKey) → list_any (eq_by_cmp key_cmp key) keys ≡ true → p key ≡ true → is_among (Cell key) (map Cell (filter p keys)) ≡ true
moved_among p key [] at passes = absurd (cc)
moved_among p key (k ∷ keys) at passes = one_moved p key k keys (eq_by_cmp key_cmp key k) (p k) refl refl at passes (λ later. moved_among p key keys later passes)
