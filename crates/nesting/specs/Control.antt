-- The commands that run scripts.

-- a command for each name (catch(n), eval(n), expr(n), for(n), foreach(n), if(n), switch(n),
-- while(n))
pub data Control : Type 0 where
  Catch : Control
  Eval : Control
  Expr : Control
  For : Control
  Foreach : Control
  If : Control
  Switch : Control
  While : Control
