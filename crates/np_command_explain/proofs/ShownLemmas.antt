-- The text of what decides between two ends, piece by piece. For `put_shown`, `put_side` and `write_shown`.
use Rattle.std.proofs.Common.{◌≡◌, ℕ, List, [], ◌++◌, flat_map, Option, refl, subst, append_assoc}
use Rattle.np_command_explain.specs.Prelude.{Direction, Egress, Family, Ingress, Part, Shown, explain_text, head_line, part_line, row_line, shown_text, side_text}
use Rattle.np_command.proofs.PuttingLemmas.{HasLeft-held}
use Rattle.np_command.proofs.LeftLemmas.{HasLeft, HasLeft-all}

-- at first all of a text is left: that of a side is its first line, and then those of its parts
side_text-is : (direction : Direction) (name : List ℕ) (mark : Option Family) (parts : List Part)
    → side_text direction name mark parts ≡ head_line direction name mark ++ flat_map (part_line direction) parts
unfolding side_text
side_text-is direction name mark parts = simp append_assoc

pub left-side : (before : Option (List ℕ)) (faults : ℕ) (held : List ℕ) (direction : Direction) (name : List ℕ) (mark : Option Family) (parts : List Part)
    → HasLeft before before faults faults (held ++ side_text direction name mark parts) held (head_line direction name mark ++ flat_map (part_line direction) parts)
left-side before faults held direction name mark parts =
    subst (HasLeft before before faults faults (held ++ side_text direction name mark parts) held) (side_text-is direction name mark parts)
    (HasLeft-held before faults held (side_text direction name mark parts))

-- that of an explanation is those of its sides, and then its row
shown_text-is : (from to : List ℕ) (one : Shown)
    → shown_text from to one ≡ side_text Egress from one.mark one.made.egress ++ (side_text Ingress to one.mark one.made.ingress ++ row_line from to one)
unfolding shown_text
shown_text-is from to one = simp append_assoc

pub left-shown : (before : Option (List ℕ)) (faults : ℕ) (held from to : List ℕ) (one : Shown)
    → HasLeft before before faults faults (held ++ shown_text from to one) held
    (side_text Egress from one.mark one.made.egress ++ (side_text Ingress to one.mark one.made.ingress ++ row_line from to one))
left-shown before faults held from to one =
    subst (HasLeft before before faults faults (held ++ shown_text from to one) held) (shown_text-is from to one) (HasLeft-held before faults held (shown_text from to one))

-- and that of all of them is one after another
explain_text-is : (from to : List ℕ) (all : List Shown) → explain_text from to all ≡ flat_map (shown_text from to) all
unfolding explain_text
explain_text-is from to all = refl

pub left-all : (before : Option (List ℕ)) (faults : ℕ) (from to : List ℕ) (all : List Shown)
    → HasLeft before before faults faults (explain_text from to all) [] (flat_map (shown_text from to) all)
left-all before faults from to all =
    subst (HasLeft before before faults faults (explain_text from to all) []) (explain_text-is from to all) (HasLeft-all before faults (explain_text from to all))
