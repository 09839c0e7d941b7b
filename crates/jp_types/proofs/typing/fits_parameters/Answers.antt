use Rattle.std.proofs.Common.{rules}
use Rattle.jp_types.proofs.typing.fits_parameters.Goals as goal

pub returns-in-Some : goal.returns-in-Some
returns-in-Some c = search rules
