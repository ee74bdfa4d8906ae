-- A line of an explanation.
use Rattle.std.specs.Prelude.{ℕ, List, ◌++◌, codes}
use Rattle.np_conns.specs.Prelude.{conns_text, has_spot}
use Rattle.np_explain.specs.DeciderText.{decider_text}
use Rattle.np_explain.specs.Types.{Direction, Part}

-- `connections : decider`
abbrev pub part_line : Direction → Part → List ℕ
part_line direction part = conns_text (has_spot part.conns) ++ codes " : " ++ decider_text direction part.decider ++ codes "\n"
