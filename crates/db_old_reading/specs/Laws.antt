-- What the opening of an old database is held to.
use Rattle.std.specs.Prelude.{◌≡◌}
use Rattle.terrain_base.specs.Step.{Files}
use Rattle.db_old_reading.specs.OldOpening.{OldOpening, MigratesAs}

-- for a migration files open in at most one way
abbrev pub FilesMigrateOnce : Type 0
FilesMigrateOnce = (files : Files) (a b : OldOpening) → MigratesAs files a → MigratesAs files b → a ≡ b
