use Rattle.pr_draw.specs.Tags.{label_text, line_text, symbol_text}
use Rattle.pr_draw.proofs.Shapes.{label_content, line_content, symbol_content}
use Rattle.pr_draw.proofs.Tagging.{adds}
use Rattle.pr_draw.proofs.shape.Shape.write.Goals as goal

pub returns-in-Line : goal.returns-in-Line
returns-in-Line c =
    let stroke = c.class.result.now in
    let way = c.class-in-Line.result.now in
    adds c.args.out.now (line_text stroke way c.in-Line.from c.in-Line.to) c.write_line.new.out c.write_line.result (line_content stroke way c.in-Line.from c.in-Line.to) c.write_line.ensures

pub returns-in-Symbol : goal.returns-in-Symbol
returns-in-Symbol c =
    let href = c.href.result.now in
    adds c.args.out.now (symbol_text href c.in-Symbol.at) c.write_symbol.new.out c.write_symbol.result (symbol_content href c.in-Symbol.at) c.write_symbol.ensures

pub returns-in-Label : goal.returns-in-Label
returns-in-Label c =
    let font = c.class-in-Label.result.now in
    let words = c.as_slice.result.now in
    adds c.args.out.now (label_text font c.in-Label.at words) c.write_label.new.out c.write_label.result (label_content font c.in-Label.at words) c.write_label.ensures
