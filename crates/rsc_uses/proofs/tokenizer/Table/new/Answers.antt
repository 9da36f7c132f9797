use Rattle.std.proofs.Common.{arith}
use Rattle.rsc_uses.specs.declared.tokenizer.Kind.TheVariants.{Name, Number, Operator, Space, Wrong}
use Rattle.rsc_uses.specs.Leads.{HasRow}
use Rattle.rsc_uses.specs.Tokens.{kind_row, ranges_of}
use Rattle.rsc_uses.proofs.tokenizer.Table.new.Goals as goal

pub invariant_of-result : goal.invariant_of-result
invariant_of-result c =
    let two = c.write_row-2.ensures in
    let three = c.write_row-3.ensures in
    let four = c.write_row-4.ensures in
    let five = c.write_row-5.ensures in
    record {
      filled = record {
        bounded = c.classes_of_ranges-classes.ensures.bounded;
        rows = λ kind. elim kind as (λ k. HasRow c.classes_of_ranges-classes.result c.write_row-5.new.entries.items (kind_row k) (ranges_of k)) [
          | Name ↦
              five.others 0 _ (omega arith)
              (four.others 0 _ (omega arith) (three.others 0 _ (omega arith) (two.others 0 _ (omega arith) c.write_row.ensures.row)))
          | Number ↦ five.others 1 _ (omega arith) (four.others 1 _ (omega arith) (three.others 1 _ (omega arith) two.row))
          | Operator ↦ five.others 2 _ (omega arith) (four.others 2 _ (omega arith) three.row)
          | Space ↦ five.others 3 _ (omega arith) four.row
          | Wrong ↦ five.row
        ];
      };
    }
