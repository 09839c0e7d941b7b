use Rattle.jp_pattern.proofs.CharacterLemmas.{member_characters}
use Rattle.jp_regexp.proofs.laws.members_are_characters.Goals as goal

pub returns : goal.returns
returns c = member_characters
