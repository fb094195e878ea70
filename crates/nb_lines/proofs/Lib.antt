mod Mixed
