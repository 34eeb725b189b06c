pub mod CountedHandler
