use Rattle.db_manifest.proofs.Texts.{fits_by}
use Rattle.db_manifest.proofs.laws.fits_by_members.Goals as goal

pub returns : goal.returns
returns c = fits_by
