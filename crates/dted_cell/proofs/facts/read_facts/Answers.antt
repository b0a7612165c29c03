use Rattle.std.proofs.Common.{refl}
use Rattle.dted_cell.proofs.Streams.{known_facts}
use Rattle.dted_cell.proofs.facts.read_facts.Goals as goal

pub returns : goal.returns
returns g c =
    let remaining = g.R.Read.remaining in
    let front = rw c.in-Some.is at c.in_ok-header.ensures in
    let columns = rw c.in-Some-2.is at c.in_ok-counts.ensures in
    let before = remaining c.args.reader.now in
    let between = remaining c.read_front.new.reader in
    let after = remaining c.read_columns.new.reader in
    record {
      facts = known_facts c.in-Some.header c.in-Some-2.counts _ refl refl refl refl before between after c.read_front.new.room columns.0 front.0 front.1 columns.1 columns.2;
    }
