use Rattle.std.specs.Prelude.{true, false, refl}
use Rattle.std.proofs.Common.{sym}
use Rattle.manifest_lines.specs.declared.version.Version.TheVariants.{One, Two, Three}
use Rattle.manifest_lines.proofs.Versions.{version_by, test_is}
use Rattle.manifest_lines.proofs.version.manifest_version.Goals as goal

pub returns-then-starts_with : goal.returns-then-starts_with
returns-then-starts_with c =
    let is_one = test_is c.args.bytes.now _ One c.starts_with.result true c.starts_with.ensures.value c.first_bytes.ensures c.if-starts_with.true in
    sym (version_by c.args.bytes.now true _ _ is_one refl refl)

pub returns-then-starts_with-2 : goal.returns-then-starts_with-2
returns-then-starts_with-2 c =
    let not_one = test_is c.args.bytes.now _ One c.starts_with.result false c.starts_with.ensures.value c.first_bytes.ensures c.if-starts_with.false in
    let is_two = test_is c.args.bytes.now _ Two c.starts_with-2.result true c.starts_with-2.ensures.value c.first_bytes-2.ensures c.if-starts_with-2.true in
    sym (version_by c.args.bytes.now false true _ not_one is_two refl)

pub returns-then-starts_with-3 : goal.returns-then-starts_with-3
returns-then-starts_with-3 c =
    let not_one = test_is c.args.bytes.now _ One c.starts_with.result false c.starts_with.ensures.value c.first_bytes.ensures c.if-starts_with.false in
    let not_two = test_is c.args.bytes.now _ Two c.starts_with-2.result false c.starts_with-2.ensures.value c.first_bytes-2.ensures c.if-starts_with-2.false in
    let is_three = test_is c.args.bytes.now _ Three c.starts_with-3.result true c.starts_with-3.ensures.value c.first_bytes-3.ensures c.if-starts_with-3.true in
    sym (version_by c.args.bytes.now false false true not_one not_two is_three)

pub returns : goal.returns
returns c =
    let not_one = test_is c.args.bytes.now _ One c.starts_with.result false c.starts_with.ensures.value c.first_bytes.ensures c.if-starts_with.false in
    let not_two = test_is c.args.bytes.now _ Two c.starts_with-2.result false c.starts_with-2.ensures.value c.first_bytes-2.ensures c.if-starts_with-2.false in
    let not_three = test_is c.args.bytes.now _ Three c.starts_with-3.result false c.starts_with-3.ensures.value c.first_bytes-3.ensures c.if-starts_with-3.false in
    sym (version_by c.args.bytes.now false false false not_one not_two not_three)
