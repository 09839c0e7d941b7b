use Rattle.jp_field.proofs.OneField.{Reads}
use Rattle.jp_field.proofs.field_text.fields_in.Given as goal

abbrev pub invariant-loop-text : goal.invariant-loop-text
invariant-loop-text l = Reads l.texts l.text-index l.fields.items
