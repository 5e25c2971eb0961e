use Rattle.std.proofs.Common.{sym}
use Rattle.std.proofs.lemmas.Result.{err_from_is_err_and}
use Rattle.sheetfile.proofs.Judges.{refused, odd_length_refused, bad_header_refused}
use Rattle.sheetfile.proofs.SheetFile.open.Goals as goal

pub returns-then-not-is_whole : goal.returns-then-not-is_whole
returns-then-not-is_whole c = odd_length_refused c.args.bytes.now (sym c.if-not-is_whole.ensures)

pub returns-then-not-is_headed : goal.returns-then-not-is_headed
returns-then-not-is_headed c = bad_header_refused c.args.bytes.now (sym c.if-not-is_whole.ensures) (sym c.if-not-is_headed.ensures)

pub returns-in_err-place : goal.returns-in_err-place
returns-in_err-place c =
    let e = err_from_is_err_and c.from_residual.result c.from_residual.ensures.1 in
    rw (e.1, e.2) (refused c.args.bytes.now _ c.in_err-place.ensures)
