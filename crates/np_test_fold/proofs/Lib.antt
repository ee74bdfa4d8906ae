mod RulesLemmas
