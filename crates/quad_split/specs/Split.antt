-- Which nodes are split.
use Rattle.std.specs.Prelude.{ℕ, zero, suc, ◌+◌, ◌-◌, ◌*◌, ℤ, not, ◌&&◌, ◌||◌, Bool, false, List}
use Rattle.quad_split.specs.Node.{is_node}
use Rattle.quad_split.specs.Fits.{fits_at}

-- the test holds at a node of half the side that lies in the node (x, y), or beside it and shares a part of
-- positive length of a side: the four quarters, and two nodes each to the west, east, south and north. At
-- column 0 the places to the west are two of the node's own quarters, and so are those to the south at row 0
abbrev pub touching : (ℕ → ℕ → Bool) → ℕ → ℕ → Bool
touching test x y =
    test (2 * x) (2 * y) || (test (2 * x + 1) (2 * y) || (test (2 * x) (2 * y + 1)
    || (test (2 * x + 1) (2 * y + 1)
    || (test (2 * x - 1) (2 * y) || (test (2 * x - 1) (2 * y + 1)
    || (test (2 * x + 2) (2 * y) || (test (2 * x + 2) (2 * y + 1)
    || (test (2 * x) (2 * y - 1) || (test (2 * x + 1) (2 * y - 1)
    || (test (2 * x) (2 * y + 2) || test (2 * x + 1) (2 * y + 2)))))))))))

-- a node of side 1 is not split; a larger one is split where it does not fit, or where a node of half
-- its side is split that lies in it or beside it
abbrev pub is_split : List ℤ → ℕ → ℕ → ℕ → ℕ → Bool
is_split grid tol zero x y = false
is_split grid tol (suc k) x y =
    is_node (suc k) x y && (not (fits_at grid tol (suc k) x y) || touching (is_split grid tol k) x y)
