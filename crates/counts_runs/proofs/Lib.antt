pub mod CountedDemand
