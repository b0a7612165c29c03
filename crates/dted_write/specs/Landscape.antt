-- What is known of a grid while a landscape is laid on it.
use Rattle.std.specs.Prelude.{◌≡◌, ◌<◌, ℕ}
use Rattle.dted_write.specs.declared.grid.PostGrid.{PostGrid}
use Rattle.dted_write.specs.Grid.{post_at}
use Rattle.dted_write.specs.Generate.{generated_post}

-- the lowest rows of a column have the posts of the number's landscape
abbrev pub IsFilled : PostGrid → ℕ → ℕ → ℕ → Type 0
IsFilled grid number col rows =
    (row : ℕ) → row < rows → post_at grid col row ≡ generated_post number grid.square grid.level col row
