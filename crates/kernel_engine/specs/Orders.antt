-- What an order says of the kernel's end ('Messaging in Jupyter' 5.3, "Kernel shutdown" and "Kernel interrupt").
use Rattle.std.specs.Prelude.{Bool, true, false, Option, Some, None}
use Rattle.kernel_engine.specs.declared.does.Does.{Does}
use Rattle.kernel_engine.specs.declared.does.Does.TheVariants.{Says, Looks, Runs, Refuses, Unread}
use Rattle.kernel_engine.specs.declared.does.Order.{Order}
use Rattle.kernel_engine.specs.declared.does.Order.TheVariants.{GoOn, Interrupt, End}
use Rattle.kernel_engine.specs.declared.handled.Handled.{Handled}
use Rattle.kernel_engine.specs.declared.response.Response.{Response}

-- whether the kernel is to begin anew, if it is to end
abbrev pub ends : Order → Option Bool
ends GoOn = None
ends Interrupt = None
ends (End restart) = Some restart

-- what the kernel is to do after a request, by what that comes to
abbrev pub order_of_request : Does → Order
order_of_request (Says publication reply order) = order
order_of_request (Looks look) = GoOn
order_of_request (Runs code silent counts expressions) = GoOn
order_of_request (Refuses kind ename evalue) = GoOn
order_of_request Unread = GoOn

-- whether an order is to end the kernel
abbrev pub is_end : Order → Bool
is_end GoOn = false
is_end Interrupt = false
is_end (End restart) = true

-- whether an order is to end the kernel and begin it anew
abbrev pub is_restart : Order → Bool
is_restart GoOn = false
is_restart Interrupt = false
is_restart (End restart) = restart

-- whether an order is to interrupt the cell that runs
abbrev pub is_interrupt : Order → Bool
is_interrupt GoOn = false
is_interrupt Interrupt = true
is_interrupt (End restart) = false

-- what came of a request that has a response, with three marks in place of the order
abbrev pub handled_of : Response → Handled
handled_of response = record {
  reply = response.reply;
  end = is_end response.order;
  restart = is_restart response.order;
  interrupt = is_interrupt response.order;
}
