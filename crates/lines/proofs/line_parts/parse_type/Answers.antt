-- `lines::line_parts::parse_type` meets its contract: the names of the code are those of `type_names`.
use Rattle.lines.specs.LineParts.{type_of}
use Rattle.lines.proofs.line_parts.parse_type.Goals as goal

-- pub fn parse_type(name: &[u8]) -> Option<u32>
pub returns : goal.returns
unfolding type_of
returns c = c.type_in.ensures
