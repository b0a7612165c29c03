-- Nodes of the quadtree over the grid points 1 to 65: the node (x, y) of level k has the side 2^k, and its
-- south-west corner is at the grid lines 1 + x * 2^k and 1 + y * 2^k.
use Rattle.std.specs.Prelude.{◌≡◌, ℕ, ◌+◌, ◌-◌, ◌/◌, ◌^◌, ◌≤◌, nat_lt, ◌&&◌, Bool, if◌then◌else◌}
use Rattle.mesh_plane.specs.Quadtree.{line_of}
use Rattle.quad_split.specs.declared.node.Node.{Node}

-- the place is a node's: there are 64 / 2^k columns and rows of level k
unfoldable pub is_node : ℕ → ℕ → ℕ → Bool
is_node k x y = nat_lt x (64 / 2 ^ k) && nat_lt y (64 / 2 ^ k)

-- the level of a side of 1, 2, 4, 8, 16, 32 or 64: how often it can be halved
unfoldable pub level_of : ℕ → ℕ
level_of side =
    if nat_lt side 2 then 0
    else if nat_lt side 4 then 1
    else if nat_lt side 8 then 2
    else if nat_lt side 16 then 3
    else if nat_lt side 32 then 4
    else if nat_lt side 64 then 5
    else 6

-- which node of its level it is, from the west and from the south
abbrev pub column_of : Node → ℕ
column_of node = (node.i - 1) / node.side

abbrev pub row_of : Node → ℕ
row_of node = (node.j - 1) / node.side

-- the side is a power of two, the node begins at a multiple of it after grid line 1, and lies within 1 to 65
pub record IsNode (node : Node) : Type 0 where
  pub side : node.side ≡ 2 ^ level_of node.side
  pub column : node.i ≡ line_of (level_of node.side) (column_of node)
  pub row : node.j ≡ line_of (level_of node.side) (row_of node)
  pub east : node.i + node.side ≤ 65
  pub north : node.j + node.side ≤ 65
