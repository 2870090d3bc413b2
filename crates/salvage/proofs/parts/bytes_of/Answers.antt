-- `parts::bytes_of` meets its contract. Assumes nothing.
use Rattle.salvage.proofs.ExtentLaws.{byte_told, padding_told, following_told, size_told}
use Rattle.salvage.proofs.parts.bytes_of.Goals as goal

pub returns-in-Char7 : goal.returns-in-Char7
returns-in-Char7 c = byte_told c.args.b c.args.s.now c.class_of.result c.class_of.ensures c.in-Char7.is

pub returns-in-Padding : goal.returns-in-Padding
returns-in-Padding c = padding_told c.args.b c.args.s.now c.class_of.result c.class_of.ensures c.in-Padding.is

pub returns-in-Linteger : goal.returns-in-Linteger
returns-in-Linteger c =
    following_told c.args.b c.args.s.now c.class_of.result c.class_of.ensures _ _ c.fixed_bytes.ensures c.following_of.ensures.0 c.in-Linteger.is

pub returns-in-Lbitstr : goal.returns-in-Lbitstr
returns-in-Lbitstr c = size_told c.args.b c.args.s.now c.class_of.result c.class_of.ensures _ c.sized_bytes.ensures c.in-Lbitstr.is
