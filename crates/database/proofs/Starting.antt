-- A whole rebuilding, its mark first, on files that hold the state's cells.
use Rattle.std.proofs.Common.{◌≡◌, ℕ, zero, suc, ◌≤◌, List, length, take, Some, refl, ◌∙◌, ◌⊎◌, inl, inr, arith}
use Rattle.std.specs.FinMap.{get, insert, get-insert}
use Rattle.manifest_lines.specs.declared.state.State.TheVariants.{Closed, Rebuild}
use Rattle.terrain_base.specs.declared.cell_key.CellKey.{CellKey}
use Rattle.terrain_base.specs.declared.name.Key.TheVariants.{Manifest, Cell}
use Rattle.terrain_base.specs.Step.{Files}
use Rattle.terrain_base.specs.Overwrite.{all_changed}
use Rattle.database.specs.State.{State, IsState, AreFiles, ReadsAs, StandsMarked, StandsFor}
use Rattle.database.specs.Commands.{existing, rebuild_calls, marked_text}
use Rattle.database.proofs.Given.{by_text_total, existing_all}
use Rattle.database.proofs.Rebuild.{rebuild_stands, rebuild_ends}
use Rattle.database.proofs.Standing.{closed_stands}

pub record HasAll (files : Files) (s : State) : Type 0 where
  pub state : IsState s
  pub cells : (k : CellKey) (bytes : List ℕ) → get s.cells k ≡ Some bytes → get files (Cell k) ≡ Some bytes

marked_reads : (s : State) (files : Files) → HasAll files s → ReadsAs (insert files Manifest (marked_text Rebuild s)) s Rebuild
marked_reads s files h = record {
  manifest = get-insert by_text_total files Manifest (marked_text Rebuild s) Manifest;
  fit = refl;
  state = h.state;
  cells = λ k bytes at. get-insert by_text_total files Manifest (marked_text Rebuild s) (Cell k) ∙ h.cells k bytes at;
}

pub calls_end : (s : State) (files : Files) → HasAll files s → AreFiles (all_changed (rebuild_calls files s) files) s
calls_end s files h = rebuild_ends s (insert files Manifest (marked_text Rebuild s)) (existing s) (existing_all s) (marked_reads s files h)

-- a front is nothing, or leaves what stands for the state, whatever stood there
pub calls_stand : (s : State) (files : Files) → HasAll files s → (n : ℕ) → n ≤ length (rebuild_calls files s) → (all_changed (take n (rebuild_calls files s)) files ≡ files) ⊎ StandsFor (all_changed (take n (rebuild_calls files s)) files) s
calls_stand s files h zero le = inl refl
calls_stand s files h (suc n) le =
    inr (rebuild_stands s (insert files Manifest (marked_text Rebuild s)) (existing s) (existing_all s) (record { reads = marked_reads s files h; agrees = λ q free. absurd (cc) }) n (omega arith))

pub files_stand : (s : State) (files : Files) → IsState s → AreFiles files s → StandsMarked files s Closed
files_stand s files state are = closed_stands s files state (λ q e. are.each q)
