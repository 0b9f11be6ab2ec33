use Rattle.event_list.proofs.list.WaitList.renew.Given as goal

-- the ledger of the blank
abbrev pub ghosts-renew_from : goal.ghosts-renew_from
ghosts-renew_from g a = record { name = a.blank.name; parts = a.blank.parts }
