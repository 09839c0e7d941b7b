use Rattle.jp_number.proofs.Signs.{order_is, of_text}
use Rattle.jp_number.proofs.number.compare_texts.Goals as goal

pub returns : goal.returns
returns c =
    order_is _ _ _ _ _ _ c.compare_signed.result
    (of_text _ _ _ _ c.as_bytes.ensures.value c.read_size-left_negative.ensures.sign
    c.read_size-left_negative.ensures.size)
    (of_text _ _ _ _ c.as_bytes-2.ensures.value c.read_size-right_negative.ensures.sign
    c.read_size-right_negative.ensures.size)
    c.compare_signed.ensures
