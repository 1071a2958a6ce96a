-- `message_text::message_text::write_fields` meets its contract, by specs/MessageTextLaws.antt: the table has three words a field.
use mathlib.Core.Path.{sym, ◌∙◌}
use native.Mathlib.Omega.{arith}
use Rattle.message_text.specs.MessageTextLaws.{table_of_length, table_of_few, space-enough, space-written}
use Rattle.message_text.proofs.message_text.write_fields.Goals as goal

-- let needed = 3 * count;
pub overflow_mul-needed : goal.overflow_mul-needed
overflow_mul-needed c = omega (arith, table_of_length c.args.text.bytes.now c.args.count c.requires, table_of_few c.args.text.bytes.now, c.args.text.short)

-- put_fields(text, fields);
pub put_fields-requires : goal.put_fields-requires
put_fields-requires c = omega (arith, table_of_length c.args.text.bytes.now c.args.count c.requires, c.if-fields-needed.false)

pub returns : goal.returns
returns c = record {
  outcome = sym (space-enough _ c.args.fields.now _ c.requires c.if-fields-needed.false);
  memory = c.put_fields.ensures ∙ sym (space-written _ c.args.fields.now _ c.requires c.if-fields-needed.false);
}
