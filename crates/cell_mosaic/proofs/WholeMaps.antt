-- The cells that are kept in memory, by the entries of their map.
use Rattle.std.proofs.Common.{◌≡◌, ℕ, ◌+◌, ◌<◌, Bool, true, false, ◌||◌, List, [], ◌∷◌, Option, Some, None, cond, refl, sym, ap, ◌∙◌, subst}
use Rattle.std.specs.Prelude.{is_some, IsFalse, Result, OnOk, OnErr, Ok, Err}
use Rattle.std.specs.FinMap.{insert, get, get-empty, get-insert, same_map}
use Rattle.std.specs.FinSet as set
use Rattle.std.specs.Ordering.{eq_by_cmp}
use Rattle.std.specs.Cmp.{eq_by_cmp_equiv}
use Rattle.std.specs.Map.{lookup}
use Rattle.std.specs.BTreeMap.{BTreeMap, Updates, IsUnchanged, is_at}
use Rattle.std.proofs.lemmas.Map.Views.{tells_apart}
use Rattle.terrain_base.specs.declared.cell_key.CellKey.{CellKey}
use Rattle.terrain_base.specs.CellKey.{key_cmp, keys_total}
use Rattle.terrain_base.specs.Level.{rows_of, columns_of}
use Rattle.terrain_base.proofs.KeyOrder.{keys_exact, same_key}
use Rattle.dted_cell.specs.Cell.{columns_in, rows_in, post_in}
use Rattle.dted_cell.specs.Trouble.{IsCellAt}
use Rattle.cell_mosaic.specs.Cells.{Cells, HasPost, post_at, post_or_void}
use Rattle.cell_mosaic.specs.Value.{quad_round, HasRound}
use Rattle.cell_mosaic.specs.Whole.{cells_of, shapes_of, key_in, AreOfKeys}
use Rattle.cell_mosaic.specs.WholeAgrees.{keys_of}

pub get_cells : (es : List (CellKey × List ℕ)) (q : CellKey) → get (cells_of es) q ≡ lookup (is_at (key_cmp q)) es
get_cells [] q = get-empty key_cmp q
get_cells (e ∷ es) q =
    get-insert keys_total (cells_of es) e.0 e.1 q
    ∙ ap (cond (eq_by_cmp key_cmp q e.0) (Some e.1)) (get_cells es q)

turned : (k q : CellKey) → is_at (key_cmp k) q ≡ eq_by_cmp key_cmp q k
turned k q = (eq_by_cmp_equiv keys_total).symm k q

pub cells-insert : (m n : BTreeMap CellKey (List ℕ)) (k : CellKey) (v : List ℕ) → Updates key_cmp m n k (Some v) → cells_of n.entries ≡ insert (cells_of m.entries) k v
cells-insert m n k v u = same_map keys_total keys_exact _ _ (λ q.
    get_cells n.entries q
    ∙ u.0 q
    ∙ ap (λ b. cond b (Some v) (lookup (is_at (key_cmp q)) m.entries)) (turned k q)
    ∙ ap (cond (eq_by_cmp key_cmp q k) (Some v)) (sym (get_cells m.entries q))
    ∙ sym (get-insert keys_total (cells_of m.entries) k v q))

some_or : (here : Bool) (v : List ℕ) (rest : Option (List ℕ)) → is_some (cond here (Some v) rest) ≡ (here || is_some rest)
some_or true v rest = refl
some_or false v rest = refl

pub shapes-insert : (m n : BTreeMap CellKey (List ℕ)) (k : CellKey) (v : List ℕ) → Updates key_cmp m n k (Some v) → shapes_of n.entries ≡ set.insert (shapes_of m.entries) k
shapes-insert m n k v u = set.same_set keys_total keys_exact _ _ (λ q.
    sym (keys_of n.entries q)
    ∙ ap (λ cells. is_some (get cells q)) (cells-insert m n k v u)
    ∙ ap is_some (get-insert keys_total (cells_of m.entries) k v q)
    ∙ some_or (eq_by_cmp key_cmp q k) v (get (cells_of m.entries) q)
    ∙ ap (λ b. eq_by_cmp key_cmp q k || b) (keys_of m.entries q)
    ∙ sym (set.contains-insert keys_total (shapes_of m.entries) k q))

-- the key of a cell of a key is that
pub key_is : (key : CellKey) (bytes : List ℕ) → IsCellAt key bytes → key ≡ key_in bytes
key_is key bytes cell = same_key key (key_in bytes) (sym cell.square) (sym cell.level)

pub none_good : (es : List (CellKey × List ℕ)) → es ≡ [] → AreOfKeys es
none_good es e key bytes is =
    let none : get (cells_of es) key ≡ None = ap (λ es. get (cells_of es) key) e ∙ get-empty key_cmp key in
    let clash : ◌≡◌ {A = Option (List ℕ)} None (Some bytes) = sym none ∙ is in
    absurd (cc)

good_here : (here : Bool) (k key : CellKey) (v bytes : List ℕ) (rest : Option (List ℕ)) → (here ≡ true → key ≡ k) → IsCellAt k v → cond here (Some v) rest ≡ Some bytes → (rest ≡ Some bytes → IsCellAt key bytes) → IsCellAt key bytes
good_here true k key v bytes rest same cell is others =
    let it : v ≡ bytes = cc in
    subst (λ s. IsCellAt s bytes) (sym (same refl)) (subst (IsCellAt k) it cell)
good_here false k key v bytes rest same cell is others = others is

good_insert : (m n : BTreeMap CellKey (List ℕ)) (k : CellKey) (v : List ℕ) → Updates key_cmp m n k (Some v) → IsCellAt k v → AreOfKeys m.entries → AreOfKeys n.entries
good_insert m n k v u cell good key bytes is =
    let after : get (cells_of n.entries) key ≡ cond (eq_by_cmp key_cmp key k) (Some v) (get (cells_of m.entries) key) =
    ap (λ cells. get cells key) (cells-insert m n k v u) ∙ get-insert keys_total (cells_of m.entries) k v key in
    good_here (eq_by_cmp key_cmp key k) k key v bytes (get (cells_of m.entries) key) (tells_apart keys_exact key k) cell (sym after ∙ is) (good key bytes)

-- whatever the insertion answers, the cells are of their keys
pub good_after : {T E : Type 0} (m n : BTreeMap CellKey (List ℕ)) (k : CellKey) (v : List ℕ) (r : Result T E) → OnOk r (Updates key_cmp m n k (Some v)) → OnErr r (IsUnchanged m n) → IsCellAt k v → AreOfKeys m.entries → AreOfKeys n.entries
good_after m n k v (Ok x) ok err cell good = good_insert m n k v ok cell good
good_after m n k v (Err e) ok err cell good = subst AreOfKeys (sym err) good

-- ---- a look-up

-- what the map holds are the shapes
pub has_is : (es : List (CellKey × List ℕ)) (key : CellKey) → is_some (lookup (is_at (key_cmp key)) es) ≡ set.contains (shapes_of es) key
has_is es key = ap is_some (sym (get_cells es key)) ∙ keys_of es key

-- a key of the shapes is found
pub is_held : (es : List (CellKey × List ℕ)) (key : CellKey) (col row : ℕ) → HasPost (shapes_of es) key col row → None ≡ lookup (is_at (key_cmp key)) es → ⊥
is_held es key col row has none =
    let out : ◌≡◌ {A = Bool} false true = ap is_some none ∙ has_is es key ∙ has.held in
    absurd (cc)

pub record IsFound (es : List (CellKey × List ℕ)) (key : CellKey) (col row : ℕ) (bytes : List ℕ) : Type 0 where
  pub cell_is : get (cells_of es) key ≡ Some bytes
  pub cell : IsCellAt key bytes
  pub col_below : col < columns_in bytes
  pub row_below : row < rows_in bytes

pub is_found : (es : List (CellKey × List ℕ)) (key : CellKey) (col row : ℕ) (bytes : List ℕ) → AreOfKeys es → HasPost (shapes_of es) key col row → Some bytes ≡ lookup (is_at (key_cmp key)) es → IsFound es key col row bytes
unfolding columns_in rows_in
is_found es key col row bytes good has is =
    let told : get (cells_of es) key ≡ Some bytes = get_cells es key ∙ sym is in
    let cell = good key bytes told in
    record {
      cell_is = told;
      cell = cell;
      col_below = subst (λ k. col < columns_of k.square k.level) (key_is key bytes cell) has.in_col;
      row_below = subst (λ k. row < rows_of k.level) (key_is key bytes cell) has.in_row;
    }

pub told_post : (es : List (CellKey × List ℕ)) (key : CellKey) (col row : ℕ) (bytes : List ℕ) (told : Cells) → IsFound es key col row bytes → ◌≡◌ {A = Option Cells} (Some (cells_of es)) (Some told) → post_in bytes col row ≡ post_at told key col row
told_post es key col row bytes told found is =
    let same : cells_of es ≡ told = cc in
    ap (λ o. post_or_void o col row) (sym found.cell_is) ∙ ap (λ cells. post_at cells key col row) same

-- ---- the posts round a point

pub round_found : (es : List (CellKey × List ℕ)) (key : CellKey) (col row : ℕ) (on_column on_row : Bool) (bytes : List ℕ) → AreOfKeys es
    → HasPost (shapes_of es) key col row → (IsFalse on_column → HasPost (shapes_of es) key (col + 1) row) → (IsFalse on_row → HasPost (shapes_of es) key col (row + 1))
    → Some bytes ≡ lookup (is_at (key_cmp key)) es → HasRound bytes col row on_column on_row
round_found es key col row on_column on_row bytes good sw se nw is =
    let here = is_found es key col row bytes good sw is in
    record {
      in_col = here.col_below;
      in_row = here.row_below;
      next_col = λ off. (is_found es key (col + 1) row bytes good (se off) is).col_below;
      next_row = λ off. (is_found es key col (row + 1) bytes good (nw off) is).row_below;
    }

pub told_round : (es : List (CellKey × List ℕ)) (key : CellKey) (col row : ℕ) (on_column on_row : Bool) (bytes : List ℕ) (told : Cells) → IsFound es key col row bytes
    → ◌≡◌ {A = Option Cells} (Some (cells_of es)) (Some told) → quad_round (post_in bytes) col row on_column on_row ≡ quad_round (post_at told key) col row on_column on_row
told_round es key col row on_column on_row bytes told found is =
    let same : cells_of es ≡ told = cc in
    ap (λ o. quad_round (post_or_void o) col row on_column on_row) (sym found.cell_is ∙ ap (λ (cells : Cells). get cells key) same)
