-- Where the code's scan stands. Nobody has to believe this file: no public clause cites it.
use Rattle.std.specs.Prelude.{ℕ}
use Rattle.jp_tokens.specs.Depth.{Place, outside, inside, passing}
use Rattle.jp_tokens.specs.declared.depth.Quotes.{Quotes}
use Rattle.jp_tokens.specs.declared.depth.Quotes.TheVariants.{Outside, Inside, Passing}

abbrev pub place_of : Quotes → ℕ → Place
place_of Outside count = outside count
place_of (Inside quote) count = inside quote count
place_of (Passing quote) count = passing quote count
