-- Lists of rules that decide nothing are one list. For `one_list_of_rules_decides_nothing`.
use Rattle.std.proofs.Common.{◌≡◌, ℕ, List, Contains, flat_map, ap, subst, ◌∙◌, arith}
use Rattle.np_addr.proofs.SameLists.{same_elements_same_lists}
use Rattle.np_command.specs.Prelude.{SinkTrace}
use Rattle.np_command_unused.specs.Promise.{DecidesNothing, ListsUnused}
use Rattle.np_command_unused.specs.Report.{rule_line}
use Rattle.np_unused.specs.Prelude.{IsRuleOf, StandsBefore}
use Rattle.np_unused.specs.declared.rule_ref.RuleRef.{RuleRef}
use Rattle.np_model.specs.declared.lists.EstateLists.{EstateLists}

-- ---- the order of rules

-- of two rules one alone stands before the other
one-way : (one other : RuleRef) → StandsBefore one other → StandsBefore other one → ⊥
one-way one other first second = grind arith

-- ---- reports of the same inputs

-- are of one estate
same-lists : (out other : SinkTrace) (texts : List (List ℕ)) (this : ListsUnused out texts) (that : ListsUnused other texts) → this.lists ≡ that.lists
same-lists out other texts this that = cc (this.read, that.read)

-- and have the same rules
rules-among : (out other : SinkTrace) (texts : List (List ℕ)) (this : ListsUnused out texts) (that : ListsUnused other texts) (rule : RuleRef) → Contains this.rules rule → Contains that.rules rule
rules-among out other texts this that rule has =
    (that.each rule).1 (subst (λ (lists : EstateLists). IsRuleOf lists rule × DecidesNothing lists rule) (same-lists out other texts this that) ((this.each rule).0 has))

pub one-list : (out other : SinkTrace) (texts : List (List ℕ)) (this : ListsUnused out texts) (that : ListsUnused other texts) → this.rules ≡ that.rules
one-list out other texts this that =
    same_elements_same_lists StandsBefore one-way this.rules that.rules this.order that.order (rules-among out other texts this that) (rules-among other out texts that this)

pub one-text : (out other : SinkTrace) (texts : List (List ℕ)) (this : ListsUnused out texts) (that : ListsUnused other texts)
    → flat_map (rule_line this.lists) this.rules ≡ flat_map (rule_line that.lists) that.rules
one-text out other texts this that =
    ap (λ (lists : EstateLists). flat_map (rule_line lists) this.rules) (same-lists out other texts this that)
    ∙ ap (flat_map (rule_line that.lists)) (one-list out other texts this that)
