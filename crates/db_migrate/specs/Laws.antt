-- What migrations are held to.
use Rattle.std.specs.Prelude.{◌⊎◌, ℕ, ◌≤◌, length, take}
use Rattle.terrain_base.specs.Overwrite.{all_changed}
use Rattle.terrain_base.specs.Step.{Files}
use Rattle.manifest_lines.specs.declared.version.Version.{Version}
use Rattle.database.specs.State.{State, AreFiles, StandsFor}
use Rattle.db_migrate.specs.Moves.{migrating}
use Rattle.db_old_reading.specs.OldReads.{OldMark, OldReads, OldReadsFor}

-- over files that read as a state by an old version each front of the changes leaves files that do, or that stand for
-- it, and all of them leave the state's
abbrev pub MigratingBrings : Type 0
MigratingBrings = (files : Files) (v : Version) (s : State) (mark : OldMark) → OldReads files v s mark
    → ((n : ℕ) → n ≤ length (migrating v mark files s)
    → OldReadsFor (all_changed (take n (migrating v mark files s)) files) v s
    ⊎ StandsFor (all_changed (take n (migrating v mark files s)) files) s)
    × AreFiles (all_changed (migrating v mark files s) files) s
