use Rattle.std.proofs.Common.{rules}
use Rattle.jp_tree.specs.Characters.{is_name_character}
use Rattle.jp_tokens.proofs.Trims.{trimmed}
use Rattle.jp_tokens.proofs.text.past_name.Goals as goal

pub returns : goal.returns
returns c = trimmed is_name_character _ _ c.args.text.now c.utf8.text c.trim_start_matches.result.now
    c.trim_start_matches.ensures.matches (λ f a b g h. search rules)
