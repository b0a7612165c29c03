-- Cells of the same posts have the same text.
use Rattle.std.proofs.Common.{◌≡◌, ℕ, zero, suc, ◌+◌, ◌<◌, ◌≤◌, List, ◌++◌, map, refl, ap, ◌∙◌, arith}
use Rattle.std.specs.List.{flat_map, range_with_len}
use Rattle.terrain_base.specs.declared.square.Square.{Square}
use Rattle.terrain_base.specs.declared.level.CellLevel.{CellLevel}
use Rattle.terrain_base.specs.declared.post.Post.{Post}
use Rattle.terrain_base.specs.Level.{rows_of, columns_of}
use Rattle.dted_write.specs.declared.grid.PostGrid.{PostGrid}
use Rattle.dted_write.specs.Grid.{post_at}
use Rattle.dted_write.specs.Header.{header_text}
use Rattle.dted_write.specs.Record.{record_text}
use Rattle.dted_write.specs.Cell.{record_from, cell_text}
use Rattle.dted_write.specs.Generate.{generated_post}
use Rattle.dted_write.specs.Landscape.{IsFilled}

same_map : {X : Type 0} (f g : ℕ → X) (k n : ℕ) → ((i : ℕ) → k ≤ i → i < k + n → f i ≡ g i) → map f (range_with_len k n) ≡ map g (range_with_len k n)
same_map f g k zero h = refl
same_map f g k (suc n) h = rw (h k (omega arith) (omega arith), same_map f g (k + 1) n (λ i l u. h i (omega arith) (omega arith))) refl

same_flat : (f g : ℕ → List ℕ) (k n : ℕ) → ((i : ℕ) → k ≤ i → i < k + n → f i ≡ g i) → flat_map f (range_with_len k n) ≡ flat_map g (range_with_len k n)
same_flat f g k zero h = refl
same_flat f g k (suc n) h = rw (h k (omega arith) (omega arith), same_flat f g (k + 1) n (λ i l u. h i (omega arith) (omega arith))) refl

same_text : (square : Square) (level : CellLevel) (f g : ℕ → ℕ → Post) → ((col row : ℕ) → col < columns_of square level → row < rows_of level → f col row ≡ g col row) → cell_text square level f ≡ cell_text square level g
unfolding cell_text
same_text square level f g h =
    ap (λ records. header_text square level ++ records)
    (same_flat (record_from f (rows_of level)) (record_from g (rows_of level)) 0 (columns_of square level)
    (λ col l u. ap (record_text col) (same_map (f col) (g col) 0 (rows_of level) (λ row m v. h col row (omega arith) (omega arith)))))

-- the text of a grid that a landscape was laid on
pub landscape_text : (posts : PostGrid) (number : ℕ) (square : Square) (level : CellLevel) → posts.square ≡ square → posts.level ≡ level
    → ((col : ℕ) → col < columns_of square level → IsFilled posts number col (rows_of level))
    → cell_text posts.square posts.level (post_at posts) ≡ cell_text square level (generated_post number square level)
landscape_text posts number square level s l h =
    ap (λ q. cell_text q posts.level (post_at posts)) s ∙ ap (λ m. cell_text square m (post_at posts)) l
    ∙ same_text square level (post_at posts) (generated_post number square level)
    (λ col row a b. h col a row b ∙ ap (λ q. generated_post number q posts.level col row) s ∙ ap (λ m. generated_post number square m col row) l)
