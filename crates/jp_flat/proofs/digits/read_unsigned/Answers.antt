use Rattle.jp_flat.proofs.ReadNumbers.{read_ok, read_err}
use Rattle.jp_flat.proofs.digits.read_unsigned.Goals as goal

pub returns-in-Ok : goal.returns-in-Ok
returns-in-Ok c =
    read_ok c.args.digits.now c.parse_u64.result c.in-Ok.number c.requires c.parse_u64.ensures c.in-Ok.is

pub returns-in-Err : goal.returns-in-Err
returns-in-Err c = read_err c.args.digits.now c.parse_u64.result _ c.parse_u64.ensures c.in-Err.is
