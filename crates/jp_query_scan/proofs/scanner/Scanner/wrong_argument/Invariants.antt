use Rattle.std.proofs.Common.{vec_len}
use Rattle.jp_query_scan.proofs.scanner.Scanner.wrong_argument.Given as goal

abbrev pub decreases-loop-open : goal.decreases-loop-open
decreases-loop-open l = vec_len l.self.open
