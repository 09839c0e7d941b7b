use Rattle.jp_flat.proofs.Rising.{put_together}
use Rattle.jp_flat.proofs.laws.only_members.Goals as goal

pub returns : goal.returns
returns c = λ ms es rise same. put_together ms es rise same
